use Rattle.std.proofs.Common.{◌≡◌, ◌∙◌, ◌++◌, ap, sym, rules}
use Rattle.std.specs.Prelude.{IsErr}
use Rattle.dk_outside.proofs.WrittenLemmas.{first_fails, second_ends}
use Rattle.dk_vcd.specs.Dumps.{empty_processes, empty_text, process_texts, scopes_text}
use Rattle.dk_vcd.proofs.opening.write_signals.Goals as goal

pub returns-in_err-write_all_to : goal.returns-in_err-write_all_to
returns-in_err-write_all_to g c =
    let ps = c.args.header.now.processes in
    let behind = process_texts 0 ps ++ (empty_text ++ empty_processes 0 ps) in
    let fails : IsErr c.from_residual.result = search rules in
    first_fails c.as_bytes.result.now behind (scopes_text ps) (ap (λ t. t ++ behind) (sym c.as_bytes.ensures.value))
    _ _ _ c.from_residual.result fails c.in_err-write_all_to.ensures

pub returns : goal.returns
returns g c =
    let ps = c.args.header.now.processes in
    let own = c.as_slice.result.now in
    let behind = process_texts 0 own ++ (empty_text ++ empty_processes 0 own) in
    let same : own ≡ ps = search rules in
    second_ends c.as_bytes.result.now behind (scopes_text ps)
    (ap scopes_text (sym same) ∙ ap (λ t. t ++ behind) (sym c.as_bytes.ensures.value))
    _ _ _ _ c.write_scopes.result c.in_ok-write_all_to.ensures c.write_scopes.ensures
