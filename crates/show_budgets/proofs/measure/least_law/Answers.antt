use Rattle.show_budgets.proofs.Least.{least_is_least}
use Rattle.show_budgets.proofs.measure.least_law.Goals as goal

pub returns-clause-least : goal.returns-clause-least
returns-clause-least c = least_is_least c.jobs_law.ensures.within
