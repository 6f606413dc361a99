-- All that is wrong with a profile.
use Rattle.std.specs.Prelude.{ℕ, ◌+◌, ◌-◌, ◌*◌, ◌==◌, true, false, nat_lt, min, if◌then◌else◌, List, [], ◌∷◌, ◌++◌, option_to_list, Option, Some, None}
use Rattle.std.specs.List.{list_any}
use Rattle.std.specs.Option.{option_map}
use Rattle.dk_config.specs.Configuration.{Configuration}
use Rattle.dk_config.specs.Windows.{budget, longest_hold, may_ask}
use Rattle.dk_profile.specs.declared.TheConstants.{MAX_INSTRUCTIONS}
use Rattle.dk_profile.specs.declared.steps.Step.{Step}
use Rattle.dk_profile.specs.declared.steps.Why.{Why}
use Rattle.dk_profile.specs.declared.steps.Reading.{Reading}
use Rattle.dk_profile.specs.declared.steps.Reading.TheVariants as reading
use Rattle.dk_profile.specs.declared.steps.Placed.{Placed}
use Rattle.dk_profile.specs.declared.steps.ProfileFault.{ProfileFault}
use Rattle.dk_profile.specs.declared.jobs.HeldMutex.{HeldMutex}
use Rattle.dk_profile.specs.declared.jobs.JobState.{JobState}
use Rattle.dk_profile.specs.Steps.{is_work, program_size, step_ticks, steps_of}

-- what both switches leave of the budget
abbrev pub body : Configuration → ℕ → ℕ
body c p = budget c p - 2 * c.costs.switch

-- where a job begins
abbrev pub first_state : JobState
first_state = record { used = 0; held = None; begun = false }

-- the ticks of the job once the step is done; no more than 4,000,000 are counted
abbrev pub used_after : Configuration → JobState → Step → ℕ
used_after c s step = min (s.used + step_ticks c.costs.call step) 4000000

-- a mutex is held from the tick behind its lock on
abbrev pub held_after : ℕ → Option HeldMutex → Step → Option HeldMutex
held_after used None (Step.Lock m) = Some (record { mutex = m; since = used })
held_after used (Some h) (Step.Unlock m) = if h.mutex == m then None else Some h
held_after used held _ = held

-- the job once the step is done: behind its wait the next begins
abbrev pub after_step : Configuration → JobState → Step → JobState
after_step c s Step.Wait = first_state
after_step c s step =
    record { used = used_after c s step; held = held_after (used_after c s step) s.held step; begun = true }

abbrev pub after_reading : Configuration → JobState → Reading → JobState
after_reading c s (reading.Does step) = after_step c s step
after_reading c s reading.Job = first_state
after_reading c s _ = s

-- a lock has to find as much of the body left as the longest hold, and no mutex held
abbrev pub lock_why : ℕ → ℕ → Option HeldMutex → Option Why
lock_why left hold (Some h) = Some (Why.Held h.mutex)
lock_why left hold None = if nat_lt left hold then Some (Why.Little left hold) else None

-- an unlock has to find the mutex held, for no longer than its longest hold
abbrev pub unlock_why : ℕ → ℕ → ℕ → Option HeldMutex → Option Why
unlock_why used hold m None = Some Why.NotHeld
unlock_why used hold m (Some h) =
    if h.mutex == m then (if nat_lt hold (used - h.since) then Some (Why.Long (used - h.since) hold) else None)
    else Some Why.NotHeld

abbrev pub wait_why : Option HeldMutex → Option Why
wait_why None = None
wait_why (Some h) = Some (Why.Held h.mutex)

-- why the step can't be done there
abbrev pub step_why : Configuration → ℕ → JobState → Step → Option Why
step_why c p s (Step.Work n) = None
step_why c p s (Step.Lock m) = lock_why (body c p - used_after c s (Step.Lock m)) (longest_hold c m) s.held
step_why c p s (Step.Unlock m) = unlock_why (used_after c s (Step.Unlock m)) (longest_hold c m) m s.held
step_why c p s (Step.Slack n) = if may_ask c p then None else Some Why.NoRight
step_why c p s (Step.Put n) = None
step_why c p s Step.Wait = wait_why s.held

abbrev pub reading_why : Configuration → ℕ → JobState → Reading → Option Why
reading_why c p s reading.Nothing = None
reading_why c p s reading.Job = if s.begun then Some Why.Midst else None
reading_why c p s (reading.Does step) = step_why c p s step
reading_why c p s (reading.Wrong why) = Some why

abbrev pub fault_at : ℕ → Why → ProfileFault
fault_at line why = record { line = line; why = why }

abbrev pub end_why : JobState → Option Why
end_why s = if s.begun then Some Why.Unended else None

-- what is wrong in each line, and behind the last one
abbrev pub line_faults : Configuration → ℕ → JobState → List Placed → List ProfileFault
line_faults c p s [] = option_to_list (option_map (fault_at 0) (end_why s))
line_faults c p s (r ∷ readings) =
    option_to_list (option_map (fault_at r.line) (reading_why c p s r.reading))
    ++ line_faults c p (after_reading c s r.reading) readings

-- what is wrong of the whole, where no line is
abbrev pub whole_why : List Step → Option Why
whole_why steps =
    if list_any is_work steps
    then (if nat_lt MAX_INSTRUCTIONS (program_size steps) then Some (Why.Many (program_size steps)) else None)
    else Some Why.NoWork

abbrev pub or_whole : List Step → List ProfileFault → List ProfileFault
or_whole steps [] = option_to_list (option_map (fault_at 0) (whole_why steps))
or_whole steps (fault ∷ faults) = fault ∷ faults

-- All that is wrong with a profile of process p: each line that says nothing or whose step can't be done where it stands,
-- and where there is no such line what is wrong of the whole.
abbrev pub faults_of : Configuration → ℕ → List Placed → List ProfileFault
faults_of c p readings = or_whole (steps_of readings) (line_faults c p first_state readings)
