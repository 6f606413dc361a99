-- An allotment for one process alone is what plan would give it above its budget.
use Rattle.std.specs.Prelude.{ℕ, ◌+◌, ◌<◌, ◌↔◌, length}
use Rattle.dk_config.specs.Configuration.{Configuration}
use Rattle.dk_config.specs.Checked.{IsAccepted}
use Rattle.dk_config.specs.Windows.{budget}
use Rattle.dk_plan.specs.Budget.{with_budget}
use Rattle.dk_slack_promise.specs.Allotted.{IsAllotted}
use Rattle.dk_allotment.specs.Alone.{alone}

-- It can be promised exactly where the configuration is accepted with the budget greater by it.
abbrev pub AloneIsPlanned : Configuration → Type 0
AloneIsPlanned c =
    (p s : ℕ) → p < length c.processes
    → IsAllotted c (alone p s) ↔ IsAccepted (with_budget c p (budget c p + s))
