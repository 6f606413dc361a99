-- The premises of the laws of jobs with any steps can be met all at once: a process with a wait alone as its first job, one with a
-- put under a mutex that another process uses too, and one that is longer than the body. Four of its windows, computed.
use Rattle.dk_alone.proofs.Names.{ℕ, ◌≡◌, ◌+◌, ◌*◌, ◌<◌, false, List, [], ◌∷◌, ◌++◌, None, refl, arith, replicate, reverse, slice_index_or, Configuration, IsChecked, IsAccepted, first_broken, checked, ThreadId, Label, Event, Entry, trace, accepted, alone, entries_of, own_window, window_from}
use Rattle.std.specs.Prelude.{Some, codes, true}
use Rattle.dk_config.specs.Checked.{IsWithinLimits}
use Rattle.dk_config.specs.Rules.{all_tests, version_tests, count_tests, range_tests, period_tests, name_tests, again_tests, level_tests, budget_tests, user_tests, slowest_tests}
use Rattle.dk_config.proofs.CheckedConfig.{within_limits}
use Rattle.dk_profile.specs.declared.steps.Step.{Step}
use Rattle.dk_replay.specs.Code.{program_of}
use Rattle.dk_replay_run.specs.Profiles.{FitsFrom, JobsFit, first_window, job_entries, job_in_turn, job_ticks, part_of, profile_steps, whole_window, windows_of}
use Rattle.dk_times.specs.declared.form.Form.{Form}
use Rattle.dk_replay.specs.Pages.{is_made, program_for}
use Rattle.dk_replay_run.specs.Laws.{AreWithinBody, HasUsed, ReplaysJobs, ReplaysParts, ReplaysProfiles, UsesWholeJobs, profile_jobs}

abbrev sharing : Configuration
sharing = record {
  version = 2;
  costs = record { switch = 1; call = 2 };
  levels = record { period = 30; release = 1 } ∷ record { period = 60; release = 0 } ∷ [];
  processes =
      record { name = 97 ∷ []; program = 97 ∷ []; level = 0; budget = 12; memory = 0; threads = 0; slack = false; max_level = 1 }
      ∷ record { name = 98 ∷ []; program = 98 ∷ []; level = 1; budget = 18; memory = 1; threads = 0; slack = false; max_level = 1 }
      ∷ [];
  mutexes = record { name = 109 ∷ []; ceiling = 0; hold = 6; users = (97 ∷ []) ∷ (98 ∷ []) ∷ [] } ∷ [];
}

sharing-passes : first_broken (all_tests sharing) ≡ None
unfolding all_tests version_tests count_tests range_tests period_tests name_tests again_tests level_tests budget_tests user_tests slowest_tests
sharing-passes = refl

sharing-checked : IsChecked sharing
sharing-checked = checked sharing sharing-passes

sharing-limits : IsWithinLimits sharing
sharing-limits = within_limits sharing sharing-passes

sharing-accepted : IsAccepted sharing
sharing-accepted = accepted sharing refl

abbrev putting : List Step
putting = Step.Work 2 ∷ Step.Lock 0 ∷ Step.Put 7 ∷ Step.Unlock 0 ∷ []

-- a wait alone, the put under the mutex, and 22 ticks where the body has 16
abbrev jobs : List (List Step)
jobs = [] ∷ putting ∷ (Step.Work 20 ∷ []) ∷ []

abbrev worker : List ℕ
worker = program_of (profile_steps jobs)

-- the mutex is taken in tick 5 of the job and given back in tick 11, its longest hold later
given-back : FitsFrom sharing 1 8 (Some (record { mutex = 0; since = 5 })) (Step.Unlock 0 ∷ [])
given-back = ((refl, omega arith), tt)

taken : FitsFrom sharing 1 2 None (Step.Lock 0 ∷ Step.Put 7 ∷ Step.Unlock 0 ∷ [])
taken = (tt, refl, omega arith, given-back)

putting-fits : FitsFrom sharing 1 0 None putting
putting-fits = (omega arith, omega arith, taken)

longer-fits : FitsFrom sharing 1 0 None (Step.Work 20 ∷ [])
longer-fits = (omega arith, omega arith, tt)

jobs-fit : JobsFit sharing 1 jobs
jobs-fit = (tt, (putting-fits, (longer-fits, tt)))

-- the other takes the same mutex in each of its windows
abbrev neighbour : List ℕ
neighbour = program_of (profile_steps ((Step.Work 1 ∷ Step.Lock 0 ∷ Step.Unlock 0 ∷ []) ∷ []))

abbrev beta : ThreadId
beta = record { process = 1; serial = 0 }

abbrev quiet : Label → Entry
quiet label = record { label = label; event = None }

abbrev last : Event → Entry
last event = record { label = Label.Call beta; event = Some event }

-- four windows, the oldest entry first
abbrev worked : List Entry
worked =
    quiet (Label.In beta) ∷ quiet (Label.Call beta) ∷ last Event.Wait ∷ quiet (Label.Out beta)
    ∷ quiet (Label.In beta) ∷ quiet (Label.Run beta) ∷ quiet (Label.Run beta)
    ∷ quiet (Label.Run beta) ∷ quiet (Label.Call beta) ∷ last (Event.Lock 0)
    ∷ quiet (Label.Run beta) ∷ quiet (Label.Call beta) ∷ last (Event.Put 7)
    ∷ quiet (Label.Run beta) ∷ quiet (Label.Call beta) ∷ last (Event.Unlock 0)
    ∷ quiet (Label.Call beta) ∷ last Event.Wait ∷ quiet (Label.Out beta)
    ∷ quiet (Label.In beta) ∷ (replicate 16 (quiet (Label.Run beta)) ++ (
    quiet (Label.Out beta)
    ∷ quiet (Label.In beta) ∷ (replicate 4 (quiet (Label.Run beta)) ++ (
    quiet (Label.Call beta) ∷ last Event.Wait ∷ quiet (Label.Out beta) ∷ []))))

worked-alone : reverse (entries_of 1 (alone sharing 1 worker 240).past) ≡ worked
worked-alone = refl

worked-beside-neighbour : reverse (entries_of 1 (trace sharing (neighbour ∷ worker ∷ []) 240)) ≡ worked
worked-beside-neighbour = refl

-- the same, as the windows of its jobs
worked-in-turn : whole_window sharing 1 (job_entries sharing 1 [])
    ++ (whole_window sharing 1 (job_entries sharing 1 putting)
    ++ (whole_window sharing 1 (part_of sharing 1 (Step.Work 20 ∷ []) 0) ++ whole_window sharing 1 (part_of sharing 1 (Step.Work 20 ∷ []) 1)))
    ≡ worked
worked-in-turn = refl

-- so each of its windows has the part of its job that comes next, for ever, whatever the other process does
worker-replays : ReplaysParts → (others : List (List ℕ)) (k j : ℕ) → j < windows_of sharing 1 (job_in_turn jobs k) → slice_index_or others 1 [] ≡ worker
    → own_window sharing others 1 ((first_window sharing 1 jobs k + j) * 60) ≡ reverse (whole_window sharing 1 (part_of sharing 1 (job_in_turn jobs k) j))
worker-replays law others k j few is =
    law sharing others 1 k j jobs sharing-limits sharing-checked sharing-accepted (omega arith) refl refl refl jobs-fit few is

-- the same as a text says it
abbrev profile : List ℕ
profile = codes "wait\nwork 2\nlock m\nput 7\nunlock m\nwait\nwork 20\nwait\n"

profile-made : is_made sharing Form.Text 1 (98 ∷ []) profile ≡ true
profile-made = refl

profile-says : profile_jobs sharing Form.Text 1 (98 ∷ []) profile ≡ jobs
profile-says = refl

profile-replays : ReplaysProfiles → (others : List (List ℕ)) (k j : ℕ) → j < windows_of sharing 1 (job_in_turn jobs k)
    → slice_index_or others 1 [] ≡ program_for sharing Form.Text 1 (98 ∷ []) profile
    → own_window sharing others 1 ((first_window sharing 1 jobs k + j) * 60) ≡ reverse (whole_window sharing 1 (part_of sharing 1 (job_in_turn jobs k) j))
profile-replays law others k j few is =
    law sharing others Form.Text 1 k j (98 ∷ []) profile sharing-limits sharing-checked sharing-accepted (omega arith) refl refl profile-made few is

-- and without the longer job a window has the whole of each
abbrev short : List (List Step)
short = [] ∷ putting ∷ []

short-within : AreWithinBody sharing 1 short
short-within = (omega arith, (omega arith, tt))

short-replays : ReplaysJobs → (others : List (List ℕ)) (k : ℕ) → slice_index_or others 1 [] ≡ program_of (profile_steps short)
    → own_window sharing others 1 (k * 60) ≡ reverse (whole_window sharing 1 (job_entries sharing 1 (job_in_turn short k)))
short-replays law others k is =
    law sharing others 1 k short sharing-limits sharing-checked sharing-accepted (omega arith) refl refl refl (tt, (putting-fits, tt)) short-within is

short-uses : UsesWholeJobs → (others : List (List ℕ)) (k : ℕ) → slice_index_or others 1 [] ≡ program_of (profile_steps short)
    → HasUsed 1 (job_ticks sharing (job_in_turn short k) + 2) (window_from sharing others 1 (k * 60))
short-uses law others k is =
    law sharing others 1 k short sharing-limits sharing-checked sharing-accepted (omega arith) refl refl refl (tt, (putting-fits, tt)) short-within is
