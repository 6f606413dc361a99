-- Jobs of a work and a wait: their steps, where each of them begins, and what a window with one has.
use Rattle.std.specs.Prelude.{ℕ, zero, suc, ◌≡◌, ◌⊎◌, ◌+◌, ◌-◌, ◌*◌, ◌%◌, ◌<◌, ◌≤◌, false, List, [], ◌∷◌, ◌++◌, length, map, take, replicate, slice_index_or, sum_by, Some}
use Rattle.dk_config.specs.Configuration.{Configuration}
use Rattle.dk_config.specs.Windows.{budget}
use Rattle.dk_trace.specs.declared.ThreadId.{ThreadId}
use Rattle.dk_trace.specs.declared.Label.{Label}
use Rattle.dk_trace.specs.declared.Event.{Event}
use Rattle.dk_trace.specs.declared.Entry.{Entry}
use Rattle.dk_trace.specs.Entries.{quiet}
use Rattle.dk_world.specs.Run.{World}
use Rattle.dk_alone.specs.Again.{main_is_stopped}
use Rattle.dk_profile.specs.declared.steps.Step.{Step}
use Rattle.dk_profile.specs.Steps.{step_size}
use Rattle.dk_replay.specs.Laws.{StandsAt}

-- the steps of a job that takes so many ticks of work, and then waits
abbrev pub job_steps : ℕ → List Step
job_steps zero = Step.Wait ∷ []
job_steps (suc n) = Step.Work (suc n) ∷ Step.Wait ∷ []

-- the steps of such jobs, one after the other
abbrev pub steps_of_jobs : List ℕ → List Step
steps_of_jobs [] = []
steps_of_jobs (n ∷ times) = job_steps n ++ steps_of_jobs times

-- there is a first job, and it has a tick of work
abbrev pub BeginsWithWork : List ℕ → Type 0
BeginsWithWork [] = ⊥
BeginsWithWork (n ∷ times) = 0 < n

-- one of the jobs has a tick of work
abbrev pub HaveSomeWork : List ℕ → Type 0
HaveSomeWork [] = ⊥
HaveSomeWork (n ∷ times) = (0 < n) ⊎ HaveSomeWork times

-- the ticks of work of job k, where the jobs come in turn for ever
abbrev pub job_time : List ℕ → ℕ → ℕ
job_time times k = slice_index_or times (k % length times) 0

-- The place of the program at which job k begins: the first instruction, and then behind the steps of the round up to those
-- of the job before it. So the first job of each round but the first begins behind all steps, where the way round begins.
abbrev pub job_place : List ℕ → ℕ → ℕ
job_place times zero = 0
job_place times (suc k) = sum_by step_size (steps_of_jobs (take (suc (k % length times)) times))

-- each job has room for its work, its wait and both switches in the budget of one window
abbrev pub HaveRoom : Configuration → ℕ → List ℕ → Type 0
HaveRoom c p [] = Unit {0}
HaveRoom c p (n ∷ times) = (n + c.costs.call + 2 * c.costs.switch ≤ budget c p) × HaveRoom c p times

-- how long jobs work that take so many ticks in all, of which the wait of each takes those of a call
abbrev pub work_times : ℕ → List ℕ → List ℕ
work_times call times = map (λ ticks. ticks - call) times

-- each of them takes a call's ticks or more, and has room with both switches in the budget of one window
abbrev pub FitWindows : Configuration → ℕ → List ℕ → Type 0
FitWindows c p [] = Unit {0}
FitWindows c p (ticks ∷ times) = (c.costs.call ≤ ticks) × (ticks + 2 * c.costs.switch ≤ budget c p) × FitWindows c p times

-- The entries of a window in which the main of process p has a job of n ticks of work, the newest first: the switch in, the
-- work, the wait, which is done in the last tick of its call, and the switch out. Nothing else.
abbrev pub job_window : Configuration → ℕ → ℕ → List Entry
job_window c p n =
    let main : ThreadId = record { process = p; serial = 0 } in
    replicate c.costs.switch (quiet (Label.Out main))
    ++ (record { label = Label.Call main; event = Some Event.Wait }
    ∷ (replicate (c.costs.call - 1) (quiet (Label.Call main))
    ++ (replicate n (quiet (Label.Run main)) ++ replicate c.costs.switch (quiet (Label.In main)))))

-- the main of the process stands at a place of its program with no call begun, and was never stopped
pub record StandsReady (c : Configuration) (p at : ℕ) (w : World) : Type 0 where
  pub stands : StandsAt at ((w.images p).contexts 0)
  pub goes : main_is_stopped c p w.past ≡ false
