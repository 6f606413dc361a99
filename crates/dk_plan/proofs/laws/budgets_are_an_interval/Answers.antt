use Rattle.dk_plan.proofs.LawLemmas.{between}
use Rattle.dk_plan.proofs.laws.budgets_are_an_interval.Goals as goal

pub returns : goal.returns
returns c = between
