-- The premises can be met all at once, with switch costs and a call of two ticks: a process of three jobs beside one that never waits, and beside any other. Three of its windows, computed.
use Rattle.dk_alone.proofs.Names.{ℕ, ◌≡◌, ◌*◌, inl, false, List, [], ◌∷◌, None, refl, arith, reverse, slice_index_or, Configuration, IsChecked, IsAccepted, first_broken, checked, ThreadId, Label, Event, Entry, trace, accepted, alone, entries_of, own_window, bytes_of, Jmp, flat_map}
use Rattle.std.specs.Prelude.{Option, Some}
use Rattle.dk_config.specs.Checked.{IsWithinLimits}
use Rattle.dk_config.specs.Rules.{all_tests, version_tests, count_tests, range_tests, period_tests, name_tests, again_tests, level_tests, budget_tests, user_tests, slowest_tests}
use Rattle.dk_config.proofs.CheckedConfig.{within_limits}
use Rattle.dk_replay.specs.Code.{program_of}
use Rattle.dk_replay_run.specs.Jobs.{HaveRoom, job_time, job_window, steps_of_jobs}
use Rattle.dk_replay_run.specs.Laws.{Replays}

abbrev pair : Configuration
pair = record {
  version = 2;
  costs = record { switch = 1; call = 2 };
  levels = record { period = 12; release = 1 } ∷ record { period = 24; release = 0 } ∷ [];
  processes =
      record { name = 97 ∷ []; program = 97 ∷ []; level = 0; budget = 5; memory = 0; threads = 0; slack = false; max_level = 1 }
      ∷ record { name = 98 ∷ []; program = 98 ∷ []; level = 1; budget = 9; memory = 1; threads = 0; slack = false; max_level = 1 }
      ∷ [];
  mutexes = [];
}

pair-passes : first_broken (all_tests pair) ≡ None
unfolding all_tests version_tests count_tests range_tests period_tests name_tests again_tests level_tests budget_tests user_tests slowest_tests
pair-passes = refl

pair-checked : IsChecked pair
pair-checked = checked pair pair-passes

pair-limits : IsWithinLimits pair
pair-limits = within_limits pair pair-passes

pair-accepted : IsAccepted pair
pair-accepted = accepted pair refl

-- a job of four ticks of work, one of its wait alone, and one of two ticks of work
abbrev times : List ℕ
times = 4 ∷ 0 ∷ 2 ∷ []

abbrev worker : List ℕ
worker = program_of (steps_of_jobs times)

worker-fits : HaveRoom pair 1 times
worker-fits = (omega arith, (omega arith, (omega arith, tt)))

-- runs for ever
abbrev spinner : List ℕ
spinner = flat_map bytes_of (Jmp 0 ∷ [])

abbrev beta : ThreadId
beta = record { process = 1; serial = 0 }

abbrev entry : Label → Option Event → Entry
entry label event = record { label = label; event = event }

-- three windows, the oldest entry first
abbrev worked : List Entry
worked =
    entry (Label.In beta) None
    ∷ entry (Label.Run beta) None
    ∷ entry (Label.Run beta) None
    ∷ entry (Label.Run beta) None
    ∷ entry (Label.Run beta) None
    ∷ entry (Label.Call beta) None
    ∷ entry (Label.Call beta) (Some Event.Wait)
    ∷ entry (Label.Out beta) None
    ∷ entry (Label.In beta) None
    ∷ entry (Label.Call beta) None
    ∷ entry (Label.Call beta) (Some Event.Wait)
    ∷ entry (Label.Out beta) None
    ∷ entry (Label.In beta) None
    ∷ entry (Label.Run beta) None
    ∷ entry (Label.Run beta) None
    ∷ entry (Label.Call beta) None
    ∷ entry (Label.Call beta) (Some Event.Wait)
    ∷ entry (Label.Out beta) None
    ∷ []

worked-alone : reverse (entries_of 1 (alone pair 1 worker 72).past) ≡ worked
worked-alone = refl

worked-beside-spinner : reverse (entries_of 1 (trace pair (spinner ∷ worker ∷ []) 72)) ≡ worked
worked-beside-spinner = refl

-- so each of its windows has the entries of its job, for ever, whatever the other process does
worker-replays : Replays → (others : List (List ℕ)) (k : ℕ) → slice_index_or others 1 [] ≡ worker
    → own_window pair others 1 (k * 24) ≡ job_window pair 1 (job_time times k)
worker-replays law others k is = law pair others 1 k times pair-limits pair-checked pair-accepted (omega arith) refl refl (inl (omega arith)) worker-fits is
