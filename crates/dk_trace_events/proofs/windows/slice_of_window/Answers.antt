use Rattle.std.proofs.Common.{◌∙◌, ◌-◌, ◌++◌, ap, codes}
use Rattle.std.specs.Prelude.{decimal}
use Rattle.dk_trace_events.specs.LevelWindows.{level_track}
use Rattle.dk_trace_events.specs.Slices.{place_text}
use Rattle.dk_trace_events.proofs.windows.slice_of_window.Goals as goal

pub returns : goal.returns
returns c =
    let count = decimal (c.args.last - c.args.first) in
    let number = decimal c.args.window in
    let place = place_text (level_track c.args.level) in
    let one = c.word.ensures.bytes ∙ ap (λ t. t ++ codes "{\"args\":{\"window\":") c.new-text.ensures in
    let two = c.number.ensures.bytes ∙ ap (λ t. t ++ number) one in
    let three = c.word-2.ensures.bytes ∙ ap (λ t. t ++ codes "},\"cat\":\"window\",\"dur\":") two in
    let four = c.number-2.ensures.bytes ∙ ap (λ t. t ++ count) three in
    let five = c.word-3.ensures.bytes ∙ ap (λ t. t ++ codes ",\"name\":\"window ") four in
    let six = c.number-3.ensures.bytes ∙ ap (λ t. t ++ number) five in
    let seven = c.word-4.ensures.bytes ∙ ap (λ t. t ++ codes "\",\"ph\":\"X\"") six in
    let eight = c.push_place.ensures.bytes ∙ ap (λ k. c.word-4.new.self ++ place_text k) c.level_track.ensures ∙ ap (λ t. t ++ place) seven in
    let nine = c.word-5.ensures.bytes ∙ ap (λ t. t ++ codes ",\"ts\":") eight in
    let ten = c.number-4.ensures.bytes ∙ ap (λ t. t ++ decimal c.args.first) nine in
    c.word-6.ensures.bytes ∙ ap (λ t. t ++ codes "},\n") ten
