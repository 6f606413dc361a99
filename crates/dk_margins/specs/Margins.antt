-- How far one number of a configuration can go with all others as they are.
use Rattle.std.specs.Prelude.{ℕ, zero, suc, ◌+◌, ◌*◌, ◌<◌, ◌≤◌, ◌==◌, nat_lt, if◌then◌else◌, Option, Some, None, List, [], ◌∷◌, position}
use Rattle.dk_config.specs.Configuration.{Configuration}
use Rattle.dk_config.specs.declared.rows.LevelRow.{LevelRow}
use Rattle.dk_config.specs.declared.rows.ProcessRow.{ProcessRow}
use Rattle.dk_config.specs.declared.TheConstants.{MAX_COST, MAX_SPAN}
use Rattle.dk_config.specs.Mutex.{Mutex}
use Rattle.dk_config.specs.Windows.{period}
use Rattle.dk_config.specs.Certification.{level_demand, level_blocking, first_failing}
use Rattle.dk_config.specs.Checked.{BreaksNoRule}
use Rattle.dk_plan.specs.Budget.{IsCertified}

-- the configuration breaks none of the rules C4 to C13 and is accepted
pub record Stands (c : Configuration) : Type 0 where
  pub unbroken : BreaksNoRule c
  pub certified : IsCertified c

-- the fact holds of the answer and of no greater number, and where there is no answer, of none at all
abbrev pub IsGreatest : (ℕ → Type 0) → Option ℕ → Type 0
IsGreatest P None = (n : ℕ) → ¬ P n
IsGreatest P (Some most) = P most × ((n : ℕ) → most < n → ¬ P n)

-- the configuration with this cost of a switch, and else as it is
abbrev pub with_switch : Configuration → ℕ → Configuration
with_switch c switch = record c { costs = record { switch = switch; call = c.costs.call } }

-- the rows, with this hold in the one of this number
abbrev pub rows_with_hold : List Mutex → ℕ → ℕ → List Mutex
rows_with_hold [] mutex hold = []
rows_with_hold (row ∷ rows) zero hold = record row { hold = hold } ∷ rows
rows_with_hold (row ∷ rows) (suc mutex) hold = row ∷ rows_with_hold rows mutex hold

-- the configuration with this hold for the mutex, and else as it is
abbrev pub with_hold : Configuration → ℕ → ℕ → Configuration
with_hold c mutex hold = record c { mutexes = rows_with_hold c.mutexes mutex hold }

-- with this hold for the mutex the level can't miss its window
abbrev pub HoldFits : Configuration → ℕ → ℕ → ℕ → Type 0
HoldFits c mutex level hold =
    let changed = with_hold c mutex hold in
    level_demand changed level + level_blocking changed level ≤ period changed level

-- the rows, with this release in the one of this number
abbrev pub rows_with_release : List LevelRow → ℕ → ℕ → List LevelRow
rows_with_release [] level release = []
rows_with_release (row ∷ rows) zero release = record row { release = release } ∷ rows
rows_with_release (row ∷ rows) (suc level) release = row ∷ rows_with_release rows level release

-- the configuration with this release for the level, and else as it is
abbrev pub with_release : Configuration → ℕ → ℕ → Configuration
with_release c level release = record c { levels = rows_with_release c.levels level release }

-- with this release for the first level the second can't miss its window
abbrev pub ReleaseFits : Configuration → ℕ → ℕ → ℕ → Type 0
ReleaseFits c level at release =
    let changed = with_release c level release in
    level_demand changed at + level_blocking changed at ≤ period changed at

-- the first level that fails with one more than the number, and none where one more is above 1,000,000
abbrev pub limit_of : (ℕ → Configuration) → ℕ → Option ℕ
limit_of changed most = if most == MAX_SPAN then None else first_failing (changed (most + 1))

-- the first process whose budget has no room for one more, and none where one more is above 255
abbrev pub switch_limit_of : Configuration → ℕ → Option ℕ
switch_limit_of c most =
    if most == MAX_COST then None
    else position (λ (row : ProcessRow). nat_lt row.budget (2 * (most + 1) + 1)) c.processes
