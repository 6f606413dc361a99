use Rattle.dk_bound.proofs.AtStart.{starts_with_budgets, starts_with_demand}
use Rattle.dk_bound.proofs.start_law.Goals as goal

pub returns-clause-budgets : goal.returns-clause-budgets
returns-clause-budgets c = starts_with_budgets

pub returns-clause-demand : goal.returns-clause-demand
returns-clause-demand c = starts_with_demand
