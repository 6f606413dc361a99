use Rattle.dk_budget.proofs.Entering.{quiet-row}
use Rattle.dk_budget.proofs.laws.tick_keeps_the_recount.Goals as goal

pub returns : goal.returns
returns c = quiet-row
