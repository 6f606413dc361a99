use Rattle.std.proofs.Common.{◌++◌, ap, sym, rules}
use Rattle.std.specs.Prelude.{IsErr}
use Rattle.dk_outside.proofs.WrittenLemmas.{first_fails, second_ends}
use Rattle.dk_vcd.specs.Dumps.{empty_processes, empty_text}
use Rattle.dk_vcd.proofs.opening.write_values.Goals as goal

pub returns-in_err-write_all_to : goal.returns-in_err-write_all_to
returns-in_err-write_all_to g c =
    let behind = empty_processes 0 c.args.lines.now in
    let fails : IsErr c.from_residual.result = search rules in
    first_fails c.as_bytes.result.now behind (empty_text ++ behind) (ap (λ t. t ++ behind) (sym c.as_bytes.ensures.value))
    _ _ _ c.from_residual.result fails c.in_err-write_all_to.ensures

pub returns : goal.returns
returns g c =
    let behind = empty_processes 0 c.args.lines.now in
    second_ends c.as_bytes.result.now behind (empty_text ++ behind) (ap (λ t. t ++ behind) (sym c.as_bytes.ensures.value))
    _ _ _ _ c.write_empty.result c.in_ok-write_all_to.ensures c.write_empty.ensures
