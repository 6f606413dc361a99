use Rattle.std.proofs.Common.{ℕ, ◌≡◌, ◌∷◌, List, rules, sym, subst, arith}
use Rattle.std.specs.Prelude.{map}
use Rattle.dk_chain.specs.Chain.{AreThere}
use Rattle.dk_chain_report.specs.Changes.{moved}
use Rattle.dk_chain_report.proofs.Undone.{all-moved}
use Rattle.dk_chain_report.proofs.changes.earlier_line.Goals as goal

pub swapped_gain-gain-requires-clause-there : goal.swapped_gain-gain-requires-clause-there
swapped_gain-gain-requires-clause-there c =
    let config = c.args.config.now in
    let other = c.in-Some.other in
    let process = c.args.process in
    let before = c.in-Some.ensures.before in
    let known = c.requires.known in
    let then : c.as_slice.result.now ≡ map (moved other process) c.args.rest.now = search rules in
    subst (λ (xs : List ℕ). AreThere config (c.moved.result ∷ xs)) (sym then)
    (subst (λ (x : ℕ). AreThere config (x ∷ map (moved other process) c.args.rest.now)) (sym c.moved.ensures)
    (all-moved config other process c.args.first c.args.rest.now (omega (arith, before, known)) known c.requires.there))
