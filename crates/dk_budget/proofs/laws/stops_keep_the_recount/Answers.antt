use Rattle.dk_budget.proofs.Entering.{stopped-row, stopped-process-row}
use Rattle.dk_budget.proofs.laws.stops_keep_the_recount.Goals as goal

pub returns-clause-child : goal.returns-clause-child
returns-clause-child c = stopped-row

pub returns-clause-process : goal.returns-clause-process
returns-clause-process c = stopped-process-row
