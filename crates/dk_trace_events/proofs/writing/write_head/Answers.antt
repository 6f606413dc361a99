use Rattle.std.proofs.Common.{◌++◌, ap, sym, rules}
use Rattle.std.specs.Prelude.{IsErr}
use Rattle.dk_outside.proofs.WrittenLemmas.{first_fails, second_ends}
use Rattle.dk_trace_events.specs.HoldSlices.{mutex_names}
use Rattle.dk_trace_events.specs.Names.{process_texts}
use Rattle.dk_trace_events.specs.Traces.{head_text}
use Rattle.dk_trace_events.proofs.writing.write_head.Goals as goal

pub returns-in_err-write_all_to : goal.returns-in_err-write_all_to
returns-in_err-write_all_to g c =
    let names = mutex_names ++ process_texts 0 c.args.header.now.processes in
    let fails : IsErr c.from_residual.result = search rules in
    first_fails c.as_bytes.result.now names (head_text ++ names) (ap (λ t. t ++ names) (sym c.as_bytes.ensures.value))
    _ _ _ c.from_residual.result fails c.in_err-write_all_to.ensures

pub returns : goal.returns
returns g c =
    let names = mutex_names ++ process_texts 0 c.args.header.now.processes in
    second_ends c.as_bytes.result.now names (head_text ++ names)
    (ap (λ t. t ++ names) (sym c.as_bytes.ensures.value))
    _ _ _ _ c.write_names.result c.in_ok-write_all_to.ensures c.write_names.ensures
