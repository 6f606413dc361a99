use Rattle.dk_budget.proofs.Recounts.{next-recount}
use Rattle.dk_budget.proofs.laws.opening_keeps_the_recount.Goals as goal

pub returns : goal.returns
returns c = next-recount
