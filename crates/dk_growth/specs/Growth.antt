-- By how many percent all budgets of a configuration can grow at once.
use Rattle.std.specs.Prelude.{ℕ, ◌≡◌, ◌+◌, ◌*◌, ◌/◌, ◌≤◌, ◌==◌, if◌then◌else◌, map, All, Option, None, Some, IfSome}
use Rattle.dk_config.specs.Configuration.{Configuration}
use Rattle.dk_config.specs.declared.TheConstants.{MAX_SPAN}
use Rattle.dk_config.specs.declared.rows.ProcessRow.{ProcessRow}
use Rattle.dk_config.specs.Windows.{period}
use Rattle.dk_config.specs.Certification.{level_demand, level_blocking, first_failing}
use Rattle.dk_margins.specs.Margins.{IsGreatest, Stands}

-- the budget and so many percent of it more, rounded up to a whole tick
abbrev pub grown_budget : ℕ → ℕ → ℕ
grown_budget percent budget = budget + (budget * percent + 99) / 100

-- the row with its budget grown, and else as it is
abbrev pub grown_row : ℕ → ProcessRow → ProcessRow
grown_row percent row = record row { budget = grown_budget percent row.budget }

-- the configuration with every budget grown by so many percent, and else as it is
abbrev pub grown : Configuration → ℕ → Configuration
grown c percent = record c { processes = map (grown_row percent) c.processes }

-- the answer is the greatest percentage by which all budgets can grow at once
abbrev pub IsGrowth : Configuration → Option ℕ → Type 0
IsGrowth c answer = IsGreatest (λ percent. Stands (grown c percent)) answer

-- the budgets can grow by each percentage up to the answer
abbrev pub GrowsUpTo : Configuration → Option ℕ → Type 0
GrowsUpTo c answer = IfSome answer (λ most. (percent : ℕ) → percent ≤ most → Stands (grown c percent))

-- the row's budget is still in its range when it has grown
abbrev pub StaysInRange : ℕ → ProcessRow → Type 0
StaysInRange percent row = grown_budget percent row.budget ≤ MAX_SPAN

-- what a row adds to the budgets of a level when it has grown
abbrev pub grown_at : ℕ → ℕ → ProcessRow → ℕ
grown_at percent level row = if row.level == level then grown_budget percent row.budget else 0

-- with the budgets grown the level can't miss its window
abbrev pub FitsGrown : Configuration → ℕ → ℕ → Type 0
FitsGrown c percent level =
    let changed = grown c percent in
    level_demand changed level + level_blocking changed level ≤ period changed level

-- the answer is the first level that fails with one percent more, all budgets being in their range with it; and where
-- there is no answer, no level fails with one percent more as long as they are
abbrev pub LimitsGrowth : Configuration → ℕ → Option ℕ → Type 0
LimitsGrowth c most None = All (StaysInRange (most + 1)) c.processes → first_failing (grown c (most + 1)) ≡ None
LimitsGrowth c most (Some level) =
    All (StaysInRange (most + 1)) c.processes × (first_failing (grown c (most + 1)) ≡ Some level)
