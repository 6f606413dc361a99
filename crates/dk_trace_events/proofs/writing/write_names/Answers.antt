use Rattle.std.proofs.Common.{◌≡◌, ◌++◌, ap, refl, sym, rules}
use Rattle.std.specs.Prelude.{IsErr}
use Rattle.dk_outside.proofs.WrittenLemmas.{first_fails, second_ends}
use Rattle.dk_trace_events.specs.HoldSlices.{mutex_names}
use Rattle.dk_trace_events.specs.Names.{process_texts}
use Rattle.dk_trace_events.proofs.writing.write_names.Goals as goal

pub returns-in_err-write_mutex_names : goal.returns-in_err-write_mutex_names
returns-in_err-write_mutex_names g c =
    let names = process_texts 0 c.args.header.now.processes in
    let fails : IsErr c.from_residual.result = search rules in
    first_fails mutex_names names (mutex_names ++ names) refl
    _ _ _ c.from_residual.result fails c.in_err-write_mutex_names.ensures

pub returns : goal.returns
returns g c =
    let names = process_texts 0 c.args.header.now.processes in
    let own = process_texts 0 c.as_slice.result.now in
    let same : c.as_slice.result.now ≡ c.args.header.now.processes = search rules in
    second_ends mutex_names own (mutex_names ++ names)
    (ap (λ ps. mutex_names ++ process_texts 0 ps) (sym same))
    _ _ _ _ c.write_processes.result c.in_ok-write_mutex_names.ensures c.write_processes.ensures
