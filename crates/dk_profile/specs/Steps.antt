-- What steps take: ticks of the body, and instructions of a program.
use Rattle.std.specs.Prelude.{ℕ, ◌+◌, ◌-◌, ◌%◌, Bool, true, false, nat_lt, nat_le, if◌then◌else◌, List, [], ◌∷◌, sum_by, Option, Some, None}
use Rattle.std.specs.List.{filter_map}
use Rattle.dk_profile.specs.declared.steps.Step.{Step}
use Rattle.dk_profile.specs.declared.steps.Reading.{Reading}
use Rattle.dk_profile.specs.declared.steps.Reading.TheVariants as reading
use Rattle.dk_profile.specs.declared.steps.Placed.{Placed}

-- The ticks of the body that a step takes, where a call takes so many. A call with a number loads it first.
abbrev pub step_ticks : ℕ → Step → ℕ
step_ticks call (Step.Work n) = n
step_ticks call (Step.Lock m) = 1 + call
step_ticks call (Step.Unlock m) = 1 + call
step_ticks call (Step.Slack n) = 1 + call
step_ticks call (Step.Put n) = 1 + call
step_ticks call Step.Wait = call

-- the instructions of so many ticks of work: single ones, or a loop of two ticks a round, which counts in a register
abbrev pub work_size : ℕ → ℕ
work_size n = if nat_lt n 3 then n else (if nat_le n 131072 then 3 + (n - 1) % 2 else 4 + (n - 2) % 2)

abbrev pub step_size : Step → ℕ
step_size (Step.Work n) = work_size n
step_size (Step.Lock m) = 2
step_size (Step.Unlock m) = 2
step_size (Step.Slack n) = 2
step_size (Step.Put n) = 2
step_size Step.Wait = 1

-- The instructions that lead from behind the last step to behind the first work: the steps before it, the work less one
-- tick, and a jump, which is that tick.
abbrev pub lap_size : List Step → ℕ
lap_size [] = 0
lap_size (Step.Work n ∷ steps) = work_size (n - 1) + 1
lap_size (step ∷ steps) = step_size step + lap_size steps

abbrev pub program_size : List Step → ℕ
program_size steps = sum_by step_size steps + lap_size steps

abbrev pub is_work : Step → Bool
is_work (Step.Work n) = true
is_work _ = false

abbrev pub step_in : Placed → Option Step
step_in r = said r.reading
  where
    said : Reading → Option Step
    said (reading.Does step) = Some step
    said _ = None

-- the steps of the lines, in order
abbrev pub steps_of : List Placed → List Step
steps_of readings = filter_map step_in readings
