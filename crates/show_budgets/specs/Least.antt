-- What the measured jobs of a process come to, and the least budget with which each has room in its window.
use Rattle.std.specs.Prelude.{ℕ, ◌≡◌, ◌+◌, ◌*◌, ◌/◌, ◌≤◌, ◌==◌, min, max, if◌then◌else◌, List, [], ◌∷◌, length, map, slice_get, Option, Some, None}
use Rattle.dk_config.specs.Configuration.{Configuration}
use Rattle.dk_config.specs.declared.rows.ProcessRow.{ProcessRow}
use Rattle.dk_config.specs.Sums.{greatest}
use Rattle.dk_plan.specs.Budget.{with_budget}
use Rattle.dk_profile.specs.declared.TheConstants.{MAX_WORK}
use Rattle.dk_times.specs.Table.{times_of}
use Rattle.dk_replay_run.specs.Jobs.{FitWindows}
use Rattle.dk_replay_run.specs.Laws as run
use Rattle.show_budgets.specs.declared.measure.Measure.{Measure}

-- the second greatest of the numbers, or 0
abbrev pub second : List ℕ → ℕ
second [] = 0
second (n ∷ ns) = max (min n (greatest ns)) (second ns)

-- so many ticks and so many percent more, rounded up to a whole tick
abbrev pub longer : ℕ → ℕ → ℕ
longer percent ticks = ticks + (ticks * percent + 99) / 100

-- With this budget for the process, and with none that is less, each of the jobs, which take so many ticks with their wait, has
-- room with both switches in one window.
pub record IsLeastBudget (c : Configuration) (p : ℕ) (times : List ℕ) (b : ℕ) : Type 0 where
  pub enough : FitWindows (with_budget c p b) p times
  pub least : (m : ℕ) → FitWindows (with_budget c p m) p times → b ≤ m

-- what a job of so many ticks and the reserve needs, with both switches
abbrev pub budget_of : Configuration → ℕ → ℕ → ℕ
budget_of c percent ticks = longer percent ticks + 2 * c.costs.switch

abbrev pub measure_of : Configuration → ℕ → List ℕ → Measure
measure_of c percent times = record {
  jobs = length times;
  greatest = greatest times;
  second = second times;
  least = budget_of c 0 (greatest times);
  budget = budget_of c percent (greatest times);
}

-- the times in the column of the process with this row
abbrev pub times_for : Configuration → List ℕ → ProcessRow → List ℕ
times_for c table row = times_of c.costs.call row.name table

-- what the column of the process with this row comes to, where it has jobs
abbrev pub ask_from : Configuration → ℕ → List ℕ → Option Measure
ask_from c percent times = if length times == 0 then None else Some (measure_of c percent times)

abbrev pub ask_of : Configuration → ℕ → List ℕ → ProcessRow → Option Measure
ask_of c percent table row = ask_from c percent (times_for c table row)

-- the second longest job takes at most 1,000,000 ticks
abbrev pub IsShort : Option Measure → Type 0
IsShort (Some m) = m.second ≤ MAX_WORK
IsShort None = Unit {0}

-- what is told of a column is least, without the reserve and with it
abbrev pub LeastIsLeast : Type 0
LeastIsLeast =
    (c : Configuration) (p percent : ℕ) (table : List ℕ) (row : ProcessRow) (m : Measure) → slice_get c.processes p ≡ Some row
    → ask_of c percent table row ≡ Some m
    → IsLeastBudget c p (times_for c table row) m.least × IsLeastBudget c p (map (longer percent) (times_for c table row)) m.budget

-- And in every run of an accepted configuration with such a budget a process with neither children nor slack, of which some job has
-- more than its wait, and with the program of its column, uses in each window exactly the time of a row and both switches, and waits.
abbrev pub UsesItsTable : Type 0
UsesItsTable = run.UsesItsTable
