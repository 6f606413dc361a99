-- Jobs of any steps but slack: the entries of their ticks, when they fit, and the windows that they take.
use Rattle.std.specs.Prelude.{ℕ, zero, suc, ◌≡◌, ◌+◌, ◌-◌, ◌*◌, ◌/◌, ◌%◌, ◌^◌, ◌<◌, ◌≤◌, true, List, [], ◌∷◌, ◌++◌, drop, flat_map, length, replicate, slice_get, slice_index_or, sum_by, take, Option, Some, None}
use Rattle.dk_config.specs.Configuration.{Configuration}
use Rattle.dk_config.specs.Certification.{is_user}
use Rattle.dk_config.specs.Windows.{longest_hold}
use Rattle.dk_trace.specs.declared.ThreadId.{ThreadId}
use Rattle.dk_trace.specs.declared.Label.{Label}
use Rattle.dk_trace.specs.declared.Event.{Event}
use Rattle.dk_trace.specs.declared.Entry.{Entry}
use Rattle.dk_trace.specs.Entries.{quiet}
use Rattle.dk_profile.specs.declared.jobs.HeldMutex.{HeldMutex}
use Rattle.dk_profile.specs.declared.steps.Step.{Step}
use Rattle.dk_profile.specs.Faults.{body}
use Rattle.dk_profile.specs.Steps.{step_ticks}

-- the ticks of a call of process p, the oldest first: it is granted in the last of them, which has its event
abbrev pub call_entries : ℕ → ℕ → Event → List Entry
call_entries call p event =
    let main : ThreadId = record { process = p; serial = 0 } in
    replicate (call - 1) (quiet (Label.Call main)) ++ record { label = Label.Call main; event = Some event } ∷ []

-- so many ticks of work
abbrev pub work_entries : ℕ → ℕ → List Entry
work_entries p n = replicate n (quiet (Label.Run (record { process = p; serial = 0 })))

-- the entries of a step's ticks, the oldest first; a call with a number loads it in a tick of work
abbrev pub step_entries : ℕ → ℕ → Step → List Entry
step_entries call p (Step.Work n) = work_entries p n
step_entries call p (Step.Lock m) = work_entries p 1 ++ call_entries call p (Event.Lock m)
step_entries call p (Step.Unlock m) = work_entries p 1 ++ call_entries call p (Event.Unlock m)
step_entries call p (Step.Slack n) = work_entries p 1 ++ call_entries call p (Event.Slack n)
step_entries call p (Step.Put n) = work_entries p 1 ++ call_entries call p (Event.Put n)
step_entries call p Step.Wait = call_entries call p Event.Wait

-- all steps of a job that waits behind these
abbrev pub whole_job : List Step → List Step
whole_job job = job ++ Step.Wait ∷ []

-- the steps of jobs, one after the other
abbrev pub profile_steps : List (List Step) → List Step
profile_steps jobs = flat_map whole_job jobs

-- a step in front of those of the first job
abbrev pub before_first : Step → List (List Step) → List (List Step)
before_first step [] = (step ∷ []) ∷ []
before_first step (job ∷ jobs) = (step ∷ job) ∷ jobs

-- the jobs of a profile with these steps, each up to its wait
abbrev pub jobs_in : List Step → List (List Step)
jobs_in [] = []
jobs_in (Step.Wait ∷ steps) = [] ∷ jobs_in steps
jobs_in (step ∷ steps) = before_first step (jobs_in steps)

-- job k, where the jobs come in turn for ever
abbrev pub job_in_turn : List (List Step) → ℕ → List Step
job_in_turn jobs k = slice_index_or jobs (k % length jobs) []

-- the entries of a job's ticks in the body, the oldest first
abbrev pub job_entries : Configuration → ℕ → List Step → List Entry
job_entries c p job = flat_map (step_entries c.costs.call p) (whole_job job)

-- no mutex is held
abbrev pub IsFree : Option HeldMutex → Type 0
IsFree None = Unit {0}
IsFree (Some h) = ⊥

-- this mutex is held, and with so many ticks of the job no longer than its longest hold
abbrev pub EndsHold : Configuration → ℕ → ℕ → Option HeldMutex → Type 0
EndsHold c m used None = ⊥
EndsHold c m used (Some h) = (h.mutex ≡ m) × (used ≤ h.since + longest_hold c m)

-- Whether the steps of a job in front of its wait can be done, where it has had so many ticks and holds a mutex or none. A lock
-- finds none held, of a mutex that the process may use, and leaves as much of the body as its longest hold; an unlock gives back
-- the mutex that is held, in time; and nothing is held in the end.
abbrev pub FitsFrom : Configuration → ℕ → ℕ → Option HeldMutex → List Step → Type 0
FitsFrom c p used held [] = IsFree held
FitsFrom c p used held (Step.Work n ∷ steps) = (0 < n) × (n < 2 ^ 32) × FitsFrom c p (used + n) held steps
FitsFrom c p used held (Step.Lock m ∷ steps) =
    let later : ℕ = used + (1 + c.costs.call) in
    IsFree held × (is_user c m p ≡ true) × (later + longest_hold c m ≤ body c p)
    × FitsFrom c p later (Some (record { mutex = m; since = later })) steps
FitsFrom c p used held (Step.Unlock m ∷ steps) =
    let later : ℕ = used + (1 + c.costs.call) in
    EndsHold c m later held × FitsFrom c p later None steps
FitsFrom c p used held (Step.Put n ∷ steps) = FitsFrom c p (used + (1 + c.costs.call)) held steps
FitsFrom c p used held (Step.Slack n ∷ steps) = ⊥
FitsFrom c p used held (Step.Wait ∷ steps) = ⊥

abbrev pub JobsFit : Configuration → ℕ → List (List Step) → Type 0
JobsFit c p [] = Unit {0}
JobsFit c p (job ∷ jobs) = FitsFrom c p 0 None job × JobsFit c p jobs

-- the ticks of the body that a job takes, its wait included
abbrev pub job_ticks : Configuration → List Step → ℕ
job_ticks c job = sum_by (step_ticks c.costs.call) (whole_job job)

-- in how many windows it has them: a job that is longer than the body goes on in the next
abbrev pub windows_of : Configuration → ℕ → List Step → ℕ
windows_of c p job = (job_ticks c job - 1) / body c p + 1

-- the window of the main in which job k begins
abbrev pub first_window : Configuration → ℕ → List (List Step) → ℕ → ℕ
first_window c p jobs zero = 0
first_window c p jobs (suc k) = first_window c p jobs k + windows_of c p (job_in_turn jobs k)

-- what of a job is done in its window j, counted from 0: the next entries, as many as the body has
abbrev pub part_of : Configuration → ℕ → List Step → ℕ → List Entry
part_of c p job j = take (body c p) (drop (j * body c p) (job_entries c p job))

-- the parts of a job's first windows, joined
abbrev pub parts_up_to : Configuration → ℕ → List Step → ℕ → List Entry
parts_up_to c p job zero = []
parts_up_to c p job (suc j) = parts_up_to c p job j ++ part_of c p job j

-- in tick n of a job's ticks in the body, counted from 1, its call with this event is granted
abbrev pub IsGrantedIn : Configuration → ℕ → List Step → ℕ → Event → Type 0
IsGrantedIn c p job n event =
    slice_get (job_entries c p job) (n - 1) ≡ Some (record { label = Label.Call (record { process = p; serial = 0 }); event = Some event })

-- a window of the main with these entries in its body, the oldest first: both switches and nothing else beside them
abbrev pub whole_window : Configuration → ℕ → List Entry → List Entry
whole_window c p entries =
    let main : ThreadId = record { process = p; serial = 0 } in
    replicate c.costs.switch (quiet (Label.In main)) ++ (entries ++ replicate c.costs.switch (quiet (Label.Out main)))
