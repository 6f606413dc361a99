use Rattle.std.proofs.Common.{◌∙◌, ◌-◌, ◌++◌, ap, codes}
use Rattle.std.specs.Prelude.{decimal}
use Rattle.dk_ledger.specs.LineText.{thread_text}
use Rattle.dk_trace_events.specs.HoldSlices.{mutex_track}
use Rattle.dk_trace_events.specs.Slices.{place_text}
use Rattle.dk_trace_events.proofs.holds.slice_of_hold.Goals as goal

pub returns : goal.returns
returns c =
    let count = decimal (c.args.last - c.args.first) in
    let name = thread_text c.args.header.now c.args.thread in
    let place = place_text (mutex_track c.args.mutex) in
    let one = c.word.ensures.bytes ∙ ap (λ t. t ++ codes "{\"args\":{\"mutex\":") c.new-text.ensures in
    let two = c.number.ensures.bytes ∙ ap (λ t. t ++ decimal c.args.mutex) one in
    let three = c.word-2.ensures.bytes ∙ ap (λ t. t ++ codes "},\"cat\":\"hold\",\"dur\":") two in
    let four = c.number-2.ensures.bytes ∙ ap (λ t. t ++ count) three in
    let five = c.word-3.ensures.bytes ∙ ap (λ t. t ++ codes ",\"name\":\"") four in
    let six = c.push_thread.ensures.bytes ∙ ap (λ t. t ++ name) five in
    let seven = c.word-4.ensures.bytes ∙ ap (λ t. t ++ codes "\",\"ph\":\"X\"") six in
    let eight = c.push_place.ensures.bytes ∙ ap (λ k. c.word-4.new.self ++ place_text k) c.mutex_track.ensures ∙ ap (λ t. t ++ place) seven in
    let nine = c.word-5.ensures.bytes ∙ ap (λ t. t ++ codes ",\"ts\":") eight in
    let ten = c.number-3.ensures.bytes ∙ ap (λ t. t ++ decimal c.args.first) nine in
    c.word-6.ensures.bytes ∙ ap (λ t. t ++ codes "},\n") ten
