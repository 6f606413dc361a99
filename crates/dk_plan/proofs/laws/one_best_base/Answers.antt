use Rattle.dk_plan.proofs.LawLemmas.{one_base}
use Rattle.dk_plan.proofs.laws.one_best_base.Goals as goal

pub returns : goal.returns
returns c = one_base
