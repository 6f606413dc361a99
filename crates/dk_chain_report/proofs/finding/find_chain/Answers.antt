use Rattle.std.proofs.Common.{ℕ, ◌∷◌, List, sym, subst}
use Rattle.std.specs.Prelude.{map}
use Rattle.dk_chain.specs.Chain.{AreThere}
use Rattle.dk_chain_report.specs.Finding.{number_of}
use Rattle.dk_chain_report.proofs.Numbers.{numbers-there}
use Rattle.dk_chain_report.proofs.finding.find_chain.Goals as goal

pub returns-clause-exist : goal.returns-clause-exist
returns-clause-exist c =
    let config = c.args.config.now in
    let rest = c.args.rest.now in
    subst (λ (xs : List ℕ). AreThere config (c.number_of.result ∷ xs)) (sym c.in_ok-numbers_of.ensures)
    (subst (λ (x : ℕ). AreThere config (x ∷ map (number_of config) rest)) (sym c.number_of.ensures)
    (numbers-there config (c.args.first.now ∷ rest) c.requires.limits.some_processes))
