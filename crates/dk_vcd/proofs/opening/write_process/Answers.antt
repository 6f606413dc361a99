use Rattle.std.proofs.Common.{◌∙◌, ◌++◌, [], ◌∷◌, ap, sym, rules}
use Rattle.std.specs.Prelude.{IsErr}
use Rattle.dk_outside.proofs.WrittenLemmas.{first_fails, second_ends}
use Rattle.dk_ledger.specs.Heading.{ended}
use Rattle.dk_vcd.specs.Dumps.{more_text, process_text}
use Rattle.dk_vcd.proofs.opening.write_process.Goals as goal

pub returns-in_err-write_to : goal.returns-in_err-write_to
returns-in_err-write_to g c =
    let behind = ended (more_text c.args.process c.args.line.now) in
    let fails : IsErr c.from_residual.result = search rules in
    first_fails (c.scope_of.result ++ 10 ∷ []) behind (process_text c.args.process c.args.line.now)
    (ap (λ t. ended t ++ behind) (sym c.scope_of.ensures.text)) _ _ _ c.from_residual.result fails c.in_err-write_to.ensures

pub returns : goal.returns
returns g c =
    let first = c.scope_of.result ++ 10 ∷ [] in
    let own = c.more_of.result ++ 10 ∷ [] in
    second_ends first own (process_text c.args.process c.args.line.now)
    (ap (λ t. ended t ++ ended (more_text c.args.process c.args.line.now)) (sym c.scope_of.ensures.text) ∙ ap (λ t. first ++ ended t) (sym c.more_of.ensures.text))
    _ _ _ _ c.write_to-2.result c.in_ok-write_to.ensures c.write_to-2.ensures
