use Rattle.std.proofs.Common.{refl}
use Rattle.dk_needs_check.specs.declared.row.Measure.{Measure}
use Rattle.dk_needs_check.specs.Meaning.{HasBudget}
use Rattle.dk_config_report.proofs.Greatest.{is_greatest}
use Rattle.dk_needs_check.proofs.Told.{at_least}
use Rattle.dk_needs_check.proofs.bounds.budget_bound.Goals as goal

pub returns : goal.returns
returns c =
    at_least (HasBudget c.args.config.now c.args.process) Measure.Budget c.greatest_budget.result c.args.wanted c.bound.result refl
    (is_greatest c.args.config.now c.args.process c.requires.process c.greatest_budget.result c.greatest_budget.ensures.reached c.greatest_budget.ensures.no_greater) c.bound.ensures
