use Rattle.std.proofs.Common.{◌∙◌, ◌++◌, ap, codes}
use Rattle.std.specs.Prelude.{decimal}
use Rattle.dk_trace_events.specs.OverrunInstants.{window_of}
use Rattle.dk_trace_events.specs.Slices.{place_text}
use Rattle.dk_trace_events.specs.Words.{thread_track}
use Rattle.dk_trace_events.proofs.overruns.instant_of.Goals as goal

pub returns : goal.returns
returns c =
    let o = c.args.overrun in
    let number = decimal (window_of o) in
    let place = place_text (thread_track o.thread) in
    let one = c.word.ensures.bytes ∙ ap (λ t. t ++ codes "{\"args\":{\"window\":") c.new-text.ensures in
    let two = c.number.ensures.bytes ∙ ap (λ n. c.word.new.self ++ decimal n) c.window_of-window.ensures ∙ ap (λ t. t ++ number) one in
    let three = c.word-2.ensures.bytes ∙ ap (λ t. t ++ codes "},\"cat\":\"overrun\",\"name\":\"overran window ") two in
    let four = c.number-2.ensures.bytes ∙ ap (λ n. c.word-2.new.self ++ decimal n) c.window_of-window.ensures ∙ ap (λ t. t ++ number) three in
    let five = c.word-3.ensures.bytes ∙ ap (λ t. t ++ codes "\",\"ph\":\"i\",\"s\":\"t\"") four in
    let six = c.push_place.ensures.bytes ∙ ap (λ k. c.word-3.new.self ++ place_text k) c.thread_track.ensures ∙ ap (λ t. t ++ place) five in
    let seven = c.word-4.ensures.bytes ∙ ap (λ t. t ++ codes ",\"ts\":") six in
    let eight = c.number-3.ensures.bytes ∙ ap (λ t. t ++ decimal o.last) seven in
    c.word-5.ensures.bytes ∙ ap (λ t. t ++ codes "},\n") eight
