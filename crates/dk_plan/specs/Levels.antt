-- What the levels need with and without a process's budget.
use Rattle.std.specs.Prelude.{ℕ, ◌+◌, ◌*◌, ◌/◌, ◌≤◌, ◌↔◌, ◌==◌, if◌then◌else◌}
use Rattle.dk_config.specs.declared.rows.ProcessRow.{ProcessRow}
use Rattle.dk_config.specs.Configuration.{Configuration}
use Rattle.dk_config.specs.Windows.{period, release}
use Rattle.dk_config.specs.Certification.{budgets_at, level_demand, level_blocking}
use Rattle.dk_config.specs.Checked.{IsAccepted}
use Rattle.dk_config.specs.declared.TheConstants.{MAX_SPAN}
use Rattle.dk_plan.specs.Budget.{with_budget}

-- what a row adds to the budgets of a level
abbrev pub budget_at : ℕ → ProcessRow → ℕ
budget_at level row = if row.level == level then row.budget else 0

-- what level i needs in a window of level j
abbrev pub work_at : Configuration → ℕ → ℕ → ℕ
work_at c j i = (release c i + budgets_at c i) * (period c j / period c i)

-- what the level can need without the process's budget
abbrev pub needs_of_others : Configuration → ℕ → ℕ → ℕ
needs_of_others c process level = level_demand (with_budget c process 0) level + level_blocking c level

-- with this budget for the process the level can't miss its window
abbrev pub LevelFits : Configuration → ℕ → ℕ → ℕ → Type 0
LevelFits c process level budget =
    let changed = with_budget c process budget in
    level_demand changed level + level_blocking changed level ≤ period c level

-- with this budget for the process no level can
abbrev pub AllFit : Configuration → ℕ → ℕ → Type 0
AllFit c process budget = IsAccepted (with_budget c process budget)

-- of the budgets up to 1,000,000 the fact holds of those up to the limit alone
abbrev pub HoldsUpTo : ℕ → (ℕ → Type 0) → Type 0
HoldsUpTo limit P = (budget : ℕ) → budget ≤ MAX_SPAN → P budget ↔ (budget ≤ limit)
