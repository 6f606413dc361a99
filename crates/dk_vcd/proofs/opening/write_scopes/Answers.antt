use Rattle.std.proofs.Common.{◌++◌, refl, rules}
use Rattle.std.specs.Prelude.{IsErr}
use Rattle.dk_outside.proofs.WrittenLemmas.{first_fails, second_ends}
use Rattle.dk_vcd.specs.Dumps.{empty_processes, empty_text, process_texts}
use Rattle.dk_vcd.proofs.opening.write_scopes.Goals as goal

pub returns-in_err-write_processes : goal.returns-in_err-write_processes
returns-in_err-write_processes g c =
    let own = process_texts 0 c.args.lines.now in
    let behind = empty_text ++ empty_processes 0 c.args.lines.now in
    let fails : IsErr c.from_residual.result = search rules in
    first_fails own behind (own ++ behind) refl _ _ _ c.from_residual.result fails c.in_err-write_processes.ensures

pub returns : goal.returns
returns g c =
    let own = process_texts 0 c.args.lines.now in
    let behind = empty_text ++ empty_processes 0 c.args.lines.now in
    second_ends own behind (own ++ behind) refl _ _ _ _ c.write_values.result c.in_ok-write_processes.ensures c.write_values.ensures
