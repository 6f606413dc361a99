-- The laws of a process whose program is that of a profile.
use Rattle.std.specs.Prelude.{ℕ, ◌≡◌, ◌+◌, ◌*◌, ◌%◌, ◌<◌, ◌≤◌, true, false, List, [], ◌∷◌, ◌++◌, length, take, flat_map, count_by, reverse, slice_index_or, sum_by}
use Rattle.std.specs.List.{list_any}
use Rattle.dk_config.specs.Configuration.{Configuration}
use Rattle.dk_config.specs.Checked.{IsAccepted, IsChecked, IsWithinLimits}
use Rattle.dk_config.specs.Windows.{main_level, may_ask, period, slots}
use Rattle.dk_trace.specs.declared.Event.{Event}
use Rattle.dk_trace.specs.declared.Entry.{Entry}
use Rattle.dk_trace.specs.Entries.{does, is_budget_of, is_wait}
use Rattle.dk_alone.specs.Alone.{ReadsNoTick, alone, entries_of}
use Rattle.dk_alone.specs.Again.{own_window, window_from}
use Rattle.dk_profile.specs.declared.steps.Step.{Step}
use Rattle.dk_profile.specs.Faults.{body}
use Rattle.dk_profile.specs.Steps.{is_work, step_ticks, steps_of}
use Rattle.dk_times.specs.declared.form.Form.{Form}
use Rattle.dk_times.specs.Whole.{readings_in}
use Rattle.dk_replay.specs.Pages.{is_made, program_for}
use Rattle.dk_times.specs.Table.{job_of, table_readings, times_of}
use Rattle.dk_replay.specs.Code.{program_of}
use Rattle.dk_replay_run.specs.Jobs.{BeginsWithWork, FitWindows, HaveRoom, HaveSomeWork, StandsReady, job_place, job_time, job_window, steps_of_jobs, work_times}
use Rattle.dk_replay_run.specs.Profiles.{IsGrantedIn, JobsFit, first_window, job_entries, job_in_turn, job_ticks, jobs_in, part_of, parts_up_to, profile_steps, whole_window, windows_of}

-- the program of a profile never reads the tick
abbrev pub ProfilesReadNoTick : Type 0
ProfilesReadNoTick = (steps : List Step) → ReadsNoTick (program_of steps)

-- the tick at which window k of the process's main begins
abbrev pub window_tick : Configuration → ℕ → ℕ → ℕ
window_tick c p k = k * period c (main_level c p)

-- With the processor to itself, a process whose jobs are some ticks of work and a wait each, and have room, stands at job k where window k
-- begins, and was never stopped.
abbrev pub JobsInTurn : Type 0
JobsInTurn =
    (c : Configuration) (p k : ℕ) (times : List ℕ) → IsWithinLimits c → IsChecked c → IsAccepted c → p < length c.processes
    → BeginsWithWork times → HaveRoom c p times
    → StandsReady c p (job_place times k) (alone c p (program_of (steps_of_jobs times)) (window_tick c p k))

-- And in window k it has the entries of job k, and no others.
abbrev pub JobsAlone : Type 0
JobsAlone =
    (c : Configuration) (p k : ℕ) (times : List ℕ) → IsWithinLimits c → IsChecked c → IsAccepted c → p < length c.processes
    → BeginsWithWork times → HaveRoom c p times
    → entries_of p
    (take (period c (main_level c p)) (alone c p (program_of (steps_of_jobs times)) (window_tick c p k + period c (main_level c p))).past)
    ≡ job_window c p (job_time times k)

-- So in every run, whatever programs the others have: in window k a process with this program, which may have neither children
-- nor slack, has the switch in, the ticks of work of job k, its wait and the switch out, and nothing else.
abbrev pub Replays : Type 0
Replays =
    (c : Configuration) (programs : List (List ℕ)) (p k : ℕ) (times : List ℕ) → IsWithinLimits c → IsChecked c → IsAccepted c
    → p < length c.processes → slots c p ≡ 0 → may_ask c p ≡ false → HaveSomeWork times → HaveRoom c p times
    → slice_index_or programs p [] ≡ program_of (steps_of_jobs times)
    → own_window c programs p (window_tick c p k) ≡ job_window c p (job_time times k)

-- of these entries of a window the main's budget paid for so many, and in one of them it waited
pub record HasUsed (p ticks : ℕ) (window : List Entry) : Type 0 where
  pub used : count_by (is_budget_of (record { process = p; serial = 0 })) window ≡ ticks
  pub waited : list_any (does is_wait (record { process = p; serial = 0 })) window ≡ true

-- So in window k it uses of its budget exactly the ticks of job k, its work and its wait, and both switches, and it waits.
abbrev pub UsesItsJobs : Type 0
UsesItsJobs =
    (c : Configuration) (programs : List (List ℕ)) (p k : ℕ) (times : List ℕ) → IsWithinLimits c → IsChecked c → IsAccepted c
    → p < length c.processes → slots c p ≡ 0 → may_ask c p ≡ false → HaveSomeWork times → HaveRoom c p times
    → slice_index_or programs p [] ≡ program_of (steps_of_jobs times)
    → HasUsed p (job_time times k + c.costs.call + 2 * c.costs.switch) (window_from c programs p (window_tick c p k))

-- So of a table of times, a row a job: in every run, in window k it uses exactly the time of row k (the rows in turn) and both
-- switches, and it waits.
abbrev pub UsesItsTimes : Type 0
UsesItsTimes =
    (c : Configuration) (programs : List (List ℕ)) (p k : ℕ) (times : List ℕ) → IsWithinLimits c → IsChecked c → IsAccepted c
    → p < length c.processes → slots c p ≡ 0 → may_ask c p ≡ false → HaveSomeWork (work_times c.costs.call times) → FitWindows c p times
    → slice_index_or programs p [] ≡ program_of (flat_map (job_of c.costs.call) times)
    → HasUsed p (slice_index_or times (k % length times) 0 + 2 * c.costs.switch) (window_from c programs p (window_tick c p k))

-- And so of the bytes of a table, in which the column of a name tells these times.
abbrev pub UsesItsTable : Type 0
UsesItsTable =
    (c : Configuration) (programs : List (List ℕ)) (p k : ℕ) (name table : List ℕ) → IsWithinLimits c → IsChecked c → IsAccepted c
    → p < length c.processes → slots c p ≡ 0 → may_ask c p ≡ false
    → HaveSomeWork (work_times c.costs.call (times_of c.costs.call name table)) → FitWindows c p (times_of c.costs.call name table)
    → slice_index_or programs p [] ≡ program_of (steps_of (table_readings c.costs.call name table))
    → HasUsed p (slice_index_or (times_of c.costs.call name table) (k % length (times_of c.costs.call name table)) 0 + 2 * c.costs.switch)
    (window_from c programs p (window_tick c p k))

-- With the processor to itself, a process with the program of a profile whose jobs fit and have some work has in window j of
-- job k, counted from the one in which the job begins, both switches, the part of the job that comes next, and nothing else.
abbrev pub PartsAlone : Type 0
PartsAlone =
    (c : Configuration) (p k j : ℕ) (jobs : List (List Step)) → IsWithinLimits c → IsChecked c → IsAccepted c → p < length c.processes
    → list_any is_work (profile_steps jobs) ≡ true → JobsFit c p jobs → j < windows_of c p (job_in_turn jobs k)
    → entries_of p
    (take (period c (main_level c p)) (alone c p (program_of (profile_steps jobs)) (window_tick c p (first_window c p jobs k + j) + period c (main_level c p))).past)
    ≡ reverse (whole_window c p (part_of c p (job_in_turn jobs k) j))

-- So in every run, whatever programs the others have.
abbrev pub ReplaysParts : Type 0
ReplaysParts =
    (c : Configuration) (programs : List (List ℕ)) (p k j : ℕ) (jobs : List (List Step)) → IsWithinLimits c → IsChecked c → IsAccepted c
    → p < length c.processes → slots c p ≡ 0 → may_ask c p ≡ false
    → list_any is_work (profile_steps jobs) ≡ true → JobsFit c p jobs → j < windows_of c p (job_in_turn jobs k)
    → slice_index_or programs p [] ≡ program_of (profile_steps jobs)
    → own_window c programs p (window_tick c p (first_window c p jobs k + j)) ≡ reverse (whole_window c p (part_of c p (job_in_turn jobs k) j))

-- none of the jobs is longer than the body
abbrev pub AreWithinBody : Configuration → ℕ → List (List Step) → Type 0
AreWithinBody c p [] = Unit {0}
AreWithinBody c p (job ∷ jobs) = (job_ticks c job ≤ body c p) × AreWithinBody c p jobs

-- So where none is, window k has the whole of job k.
abbrev pub ReplaysJobs : Type 0
ReplaysJobs =
    (c : Configuration) (programs : List (List ℕ)) (p k : ℕ) (jobs : List (List Step)) → IsWithinLimits c → IsChecked c → IsAccepted c
    → p < length c.processes → slots c p ≡ 0 → may_ask c p ≡ false
    → list_any is_work (profile_steps jobs) ≡ true → JobsFit c p jobs → AreWithinBody c p jobs
    → slice_index_or programs p [] ≡ program_of (profile_steps jobs)
    → own_window c programs p (window_tick c p k) ≡ reverse (whole_window c p (job_entries c p (job_in_turn jobs k)))

-- the jobs of a profile in this form of process p, which has this name
abbrev pub profile_jobs : Configuration → Form → ℕ → List ℕ → List ℕ → List (List Step)
profile_jobs c form p name bytes = jobs_in (steps_of (readings_in c form p name bytes))

-- So of the bytes of a profile, a text or a table, with which nothing is wrong: with the program that is made of it, the process has
-- in each window of job k both switches, the part of the job that comes next, and nothing else.
abbrev pub ReplaysProfiles : Type 0
ReplaysProfiles =
    (c : Configuration) (programs : List (List ℕ)) (form : Form) (p k j : ℕ) (name bytes : List ℕ) → IsWithinLimits c → IsChecked c → IsAccepted c
    → p < length c.processes → slots c p ≡ 0 → may_ask c p ≡ false → is_made c form p name bytes ≡ true
    → j < windows_of c p (job_in_turn (profile_jobs c form p name bytes) k)
    → slice_index_or programs p [] ≡ program_for c form p name bytes
    → own_window c programs p (window_tick c p (first_window c p (profile_jobs c form p name bytes) k + j))
    ≡ reverse (whole_window c p (part_of c p (job_in_turn (profile_jobs c form p name bytes) k) j))

-- Each window of the main is one of those of a job.
abbrev pub WindowsAreParts : Type 0
WindowsAreParts =
    (c : Configuration) (p n : ℕ) (jobs : List (List Step))
    → (k : ℕ) × (j : ℕ) × (j < windows_of c p (job_in_turn jobs k)) × (first_window c p jobs k + j ≡ n)

-- And the parts of a job in its windows, joined, are its entries.
abbrev pub PartsAreWhole : Type 0
PartsAreWhole =
    (c : Configuration) (p : ℕ) (job : List Step) → 0 < c.costs.call → 0 < body c p
    → parts_up_to c p job (windows_of c p job) ≡ job_entries c p job

-- A lock and an unlock are granted in the tick of the job up to which its steps take, their own included.
abbrev pub LocksInTheirTicks : Type 0
LocksInTheirTicks =
    (c : Configuration) (p m : ℕ) (front back : List Step) → 0 < c.costs.call
    → IsGrantedIn c p (front ++ Step.Lock m ∷ back) (sum_by (step_ticks c.costs.call) (front ++ Step.Lock m ∷ [])) (Event.Lock m)
    × IsGrantedIn c p (front ++ Step.Unlock m ∷ back) (sum_by (step_ticks c.costs.call) (front ++ Step.Unlock m ∷ [])) (Event.Unlock m)

-- Where no job is longer than the body, the main uses in window k exactly the ticks of job k and both switches, and it waits.
abbrev pub UsesWholeJobs : Type 0
UsesWholeJobs =
    (c : Configuration) (programs : List (List ℕ)) (p k : ℕ) (jobs : List (List Step)) → IsWithinLimits c → IsChecked c → IsAccepted c
    → p < length c.processes → slots c p ≡ 0 → may_ask c p ≡ false
    → list_any is_work (profile_steps jobs) ≡ true → JobsFit c p jobs → AreWithinBody c p jobs
    → slice_index_or programs p [] ≡ program_of (profile_steps jobs)
    → HasUsed p (job_ticks c (job_in_turn jobs k) + 2 * c.costs.switch) (window_from c programs p (window_tick c p k))
