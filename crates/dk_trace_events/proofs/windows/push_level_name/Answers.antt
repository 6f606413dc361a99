use Rattle.std.proofs.Common.{◌∙◌, ◌++◌, ap, codes}
use Rattle.std.specs.Prelude.{decimal}
use Rattle.dk_trace_events.specs.LevelWindows.{level_track}
use Rattle.dk_trace_events.specs.Slices.{place_text}
use Rattle.dk_groups.proofs.Texts.{extend}
use Rattle.dk_trace_events.proofs.windows.push_level_name.Goals as goal

pub returns-clause-bytes : goal.returns-clause-bytes
returns-clause-bytes c =
    let old = c.args.text.now in
    let a = codes "{\"args\":{\"name\":\"level " in
    let b = codes " period " in
    let d = codes "\"},\"name\":\"thread_name\",\"ph\":\"M\"" in
    let level = decimal c.args.level in
    let period = decimal c.args.period in
    let place = place_text (level_track c.args.level) in
    let two = extend old c.word.new.self c.number.new.self a level c.word.ensures.bytes c.number.ensures.bytes in
    let three = extend old c.number.new.self c.word-2.new.self (a ++ level) b two c.word-2.ensures.bytes in
    let four = extend old c.word-2.new.self c.number-2.new.self ((a ++ level) ++ b) period three c.number-2.ensures.bytes in
    let five = extend old c.number-2.new.self c.word-3.new.self (((a ++ level) ++ b) ++ period) d four c.word-3.ensures.bytes in
    let six = extend old c.word-3.new.self c.push_place.new.text ((((a ++ level) ++ b) ++ period) ++ d) place five
    (c.push_place.ensures.bytes ∙ ap (λ k. c.word-3.new.self ++ place_text k) c.level_track.ensures) in
    extend old c.push_place.new.text c.word-4.new.self (((((a ++ level) ++ b) ++ period) ++ d) ++ place) (codes "},\n") six c.word-4.ensures.bytes
