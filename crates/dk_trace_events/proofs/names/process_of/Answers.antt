use Rattle.std.proofs.Common.{◌∙◌, ◌++◌, ap, append_assoc, codes}
use Rattle.dk_trace.specs.declared.ThreadId.{ThreadId}
use Rattle.dk_trace_events.specs.Names.{process_labels, process_name, process_order, track_end, track_name}
use Rattle.dk_groups.proofs.Texts.{extend}
use Rattle.dk_trace_events.proofs.names.process_of.Goals as goal

pub returns : goal.returns
returns c =
    let p = c.args.process in
    let l = c.args.line.now in
    let main : ThreadId = record { process = p; serial = 0 } in
    let opening = codes "{\"args\":{\"name\":\"" in
    let old = c.push_process_order.new.text in
    let one = c.push_process_name.ensures.bytes ∙ ap (λ t. t ++ process_name p l) c.new-text.ensures in
    let two = c.push_process_labels.ensures.bytes ∙ ap (λ t. t ++ process_labels p l) one in
    let three = c.push_process_order.ensures.bytes ∙ ap (λ t. t ++ process_order p l) two in
    let name = extend old c.word.new.self c.word-2.new.self opening l.name c.word.ensures.bytes (c.word-2.ensures.bytes ∙ ap (λ n. c.word.new.self ++ n) c.as_str.ensures) in
    let main_name = extend old c.word-2.new.self c.word-3.new.self (opening ++ l.name) (codes ".0") name c.word-3.ensures.bytes in
    let whole = extend old c.word-3.new.self c.push_track.new.text ((opening ++ l.name) ++ codes ".0") (track_end main) main_name c.push_track.ensures.bytes in
    whole ∙ ap (λ t. old ++ t) (ap (λ t. t ++ track_end main) (append_assoc opening l.name (codes ".0")) ∙ append_assoc opening (l.name ++ codes ".0") (track_end main))
    ∙ ap (λ t. t ++ track_name (l.name ++ codes ".0") main) three
