use Rattle.show_budgets.proofs.Joined.{fit_together, least_together, run_together}
use Rattle.show_budgets.proofs.together.together_law.Goals as goal

pub returns-clause-least : goal.returns-clause-least
returns-clause-least c = least_together c.jobs_law.ensures.within

pub returns-clause-fit : goal.returns-clause-fit
returns-clause-fit c = fit_together c.jobs_law.ensures.within

pub returns-clause-runs : goal.returns-clause-runs
returns-clause-runs c = run_together c.jobs_law.ensures.within c.tables_law.ensures
