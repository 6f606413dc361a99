-- What a configuration allows that no run can use.
use Rattle.std.specs.Prelude.{ℕ, ◌≡◌, ◌+◌, ◌-◌, ◌*◌, ◌/◌, ◌<◌, ◌⊎◌, ◌==◌, max, if◌then◌else◌, List, [], ◌∷◌, length, Some}
use Rattle.dk_config.specs.Configuration.{Configuration}
use Rattle.dk_config.specs.Windows.{period, main_level, max_level, slots, budget, longest_hold}
use Rattle.dk_trace.specs.declared.ThreadId.{ThreadId}
use Rattle.dk_trace.specs.declared.Work.{Work}
use Rattle.dk_trace.specs.declared.Refusal.{Refusal}
use Rattle.dk_trace.specs.declared.Event.{Event}
use Rattle.dk_trace.specs.declared.Entry.{Entry}
use Rattle.dk_trace.specs.Entries.{thread_of}
use Rattle.dk_trace.specs.Threads.{Thread}
use Rattle.dk_trace.specs.Choices.{chosen}
use Rattle.dk_trace.specs.Refusals.{least_share, lock_refusal}
use Rattle.dk_trace.specs.Audit.{HasChosenLabel, row_of, without_event, work_of}

-- The greatest share that a child of the process can have of a window of its level: that of a child of the slowest level
-- that is lent all but what its main keeps.
abbrev pub greatest_child_share : Configuration → ℕ → ℕ
greatest_child_share c p =
    if slots c p == 0 then 0
    else ((budget c p - least_share c) * period c (max_level c p)) / period c (main_level c p)

-- the greatest share that a thread of the process can have of a window of its level
abbrev pub greatest_share : Configuration → ℕ → ℕ
greatest_share c p = max (budget c p) (greatest_child_share c p)

-- A hold of so many ticks is longer than what the greatest share leaves after the switch to the thread, the last tick of
-- the call and the switch away. The earlier ticks of the call don't count, since they may lie in the window before.
abbrev pub IsTooLong : Configuration → ℕ → ℕ → Type 0
IsTooLong c p hold = greatest_share c p < hold + least_share c

-- the hold of the mutex is too long for the process
abbrev pub NeverFits : Configuration → ℕ → ℕ → Type 0
NeverFits c p m = IsTooLong c p (longest_hold c m)

-- the longest hold that isn't
pub record IsRoom (c : Configuration) (p room : ℕ) : Type 0 where
  pub fits : ¬ IsTooLong c p room
  pub no_more : IsTooLong c p (room + 1)

-- the lock of the mutex by the thread is refused, by 8, 9 or 10
abbrev pub IsRefused : Configuration → List Entry → Entry → Thread → ℕ → Type 0
IsRefused c past e row m =
    let answer = lock_refusal c (length past) (without_event e ∷ past) row m in
    (answer ≡ Some Refusal.NotUser) ⊎ (answer ≡ Some Refusal.Holding) ⊎ (answer ≡ Some Refusal.TooLittle)

-- where a thread has the tick in a call, each lock of a mutex whose hold never fits its process is refused
abbrev pub LocksRefused : Configuration → List Entry → Type 0
LocksRefused c past =
    (e : Entry) (x : ThreadId) (row : Thread) (m : ℕ) → HasChosenLabel (chosen c past) e.label
    → thread_of e.label ≡ Some x → work_of e.label ≡ Work.Call → row_of c past x ≡ Some row
    → NeverFits c x.process m → IsRefused c past e row m

-- no entry is a lock of a mutex whose hold never fits its thread's process
abbrev pub NeverLocked : Configuration → List Entry → Type 0
NeverLocked c [] = Unit {0}
NeverLocked c (e ∷ past) =
    NeverLocked c past
    × ((x : ThreadId) (m : ℕ) → thread_of e.label ≡ Some x
    → e.event ≡ Some (Event.Lock m) → ¬ NeverFits c x.process m)
