-- How jobs, demand and blocking move: of what the laws speak.
use Rattle.std.specs.Prelude.{ℕ, false, ◌≡◌, ◌+◌, nat_le, if◌then◌else◌, List, ◌∷◌, sum_by}
use Rattle.dk_config.specs.Configuration.{Configuration}
use Rattle.dk_config.specs.Checked.{IsChecked, IsAccepted}
use Rattle.dk_config.specs.Windows.{window_end}
use Rattle.dk_trace.specs.declared.Label.{Label}
use Rattle.dk_trace.specs.declared.Entry.{Entry}
use Rattle.dk_trace.specs.Threads.{Thread, family, share}
use Rattle.dk_trace.specs.Holds.{thread_blocking, blocking}
use Rattle.dk_trace.specs.Jobs.{Job}
use Rattle.dk_trace.specs.Demand.{sum_starts}
use Rattle.dk_trace.specs.Choices.{chosen}
use Rattle.dk_trace.specs.Audit.{HasChosenLabel, Audited}

-- a job of which nothing is used
abbrev pub released : ℕ → Job
released share = record { share = share; used = 0; out_ticks = 0; closed = false }

-- It holds of every tick: of a past that follows the rules and the label of its choice. The event isn't known yet.
abbrev pub AtEachTick : (Configuration → Label → List Entry → Type 0) → Type 0
AtEachTick Holds =
    (c : Configuration) (label : Label) (past : List Entry) → IsChecked c → IsAccepted c → Audited c past
    → HasChosenLabel (chosen c past) label → Holds c label past

-- It holds of every entry that follows the rules, over its past.
abbrev pub AtEachEntry : (Configuration → Entry → List Entry → Type 0) → Type 0
AtEachEntry Holds =
    (c : Configuration) (e : Entry) (past : List Entry) → IsChecked c → IsAccepted c → Audited c (e ∷ past)
    → Holds c e past

-- from one past to the other, blocking changes at each level by what the thread's part of it does
abbrev pub BlockingFollows : Configuration → List Entry → List Entry → Thread → Type 0
BlockingFollows c before after x = (j : ℕ)
    → blocking c after j + thread_blocking c before j x ≡ blocking c before j + thread_blocking c after j x

-- the shares of the process's threads of levels up to j at the window starts to come before the window of level j ends
abbrev pub shares_to_come : Configuration → ℕ → List Entry → ℕ → ℕ → ℕ
shares_to_come c now past j p =
    sum_by (λ x. if nat_le x.level j then sum_starts c x.level now (window_end c j now) (share c past x) else 0)
    (family c p past)
