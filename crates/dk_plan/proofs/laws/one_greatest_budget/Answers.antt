use Rattle.dk_plan.proofs.LawLemmas.{one_budget}
use Rattle.dk_plan.proofs.laws.one_greatest_budget.Goals as goal

pub returns : goal.returns
returns c = one_budget
