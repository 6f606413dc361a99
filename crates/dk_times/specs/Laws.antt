-- The jobs of a table take the ticks of its cells.
use Rattle.std.specs.Prelude.{ℕ, ◌≡◌, ◌≤◌, List, flat_map, sum_by}
use Rattle.std.specs.List.{AllByRecursion}
use Rattle.dk_profile.specs.declared.TheConstants.{MAX_WORK}
use Rattle.dk_profile.specs.Steps.{step_ticks, steps_of}
use Rattle.dk_times.specs.Table.{job_of, table_readings, times_of}

-- the steps of a table are those of its jobs in turn, one for each cell that tells ticks
abbrev pub HasJobs : Type 0
HasJobs =
    (call : ℕ) (name table : List ℕ) → steps_of (table_readings call name table) ≡ flat_map (job_of call) (times_of call name table)

-- the ticks of a job: those of its wait or more, and no more than 1,000,000
abbrev pub IsTime : ℕ → ℕ → Type 0
IsTime call ticks = (call ≤ ticks) × (ticks ≤ MAX_WORK)

abbrev pub AreTimes : Type 0
AreTimes = (call : ℕ) (name table : List ℕ) → AllByRecursion (IsTime call) (times_of call name table)

-- the steps of a job take exactly its ticks
abbrev pub TakesItsTicks : Type 0
TakesItsTicks = (call ticks : ℕ) → call ≤ ticks → sum_by (step_ticks call) (job_of call ticks) ≡ ticks
