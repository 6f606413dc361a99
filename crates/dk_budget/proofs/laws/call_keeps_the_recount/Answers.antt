use Rattle.dk_budget.proofs.Entering.{lent-row}
use Rattle.dk_budget.proofs.laws.call_keeps_the_recount.Goals as goal

pub returns : goal.returns
returns c = lent-row
