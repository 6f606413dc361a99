use Rattle.dk_budget.proofs.Names.{◌≡◌, ap, Configuration}
use Rattle.dk_budget.proofs.Starting.{sound-at_start}
use Rattle.dk_budget.proofs.loans.Loans.at_start.Goals as goal

pub invariant_of-result : goal.invariant_of-result
invariant_of-result c =
    let sound = sound-at_start c.args.config.now c.requires.checked c.requires.limits c.requires.accepted in
    let switch : c.config.inside.costs.switch ≡ c.args.config.now.costs.switch = ap (λ (k : Configuration). k.costs.switch) c.config.view_is in
    rw (switch, c.periods_of-periods.ensures, c.lenders_of-lenders.ensures) sound
