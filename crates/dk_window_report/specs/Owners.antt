-- The threads of a ledger, and what is reported of each.
use Rattle.std.specs.Prelude.{ℕ, suc, ◌+◌, ◌-◌, ◌%◌, ◌==◌, if◌then◌else◌, List, [], ◌∷◌, ◌++◌, length, map, take, Option, Some, slice_get}
use Rattle.std.specs.Option.{option_map_or}
use Rattle.dk_config.specs.Sums.{below}
use Rattle.dk_trace.specs.declared.ThreadId.{ThreadId}
use Rattle.dk_trace.specs.declared.Event.{Event}
use Rattle.dk_trace.specs.declared.Entry.{Entry}
use Rattle.dk_trace.specs.Entries.{thread_of}
use Rattle.dk_ledger.specs.Heading.{Heading}
use Rattle.dk_window_report.specs.declared.row.Did.{Did}
use Rattle.dk_window_report.specs.declared.row.WindowCounts.{WindowCounts}
use Rattle.dk_window_report.specs.Windows.{ended_windows, did_in, counts_of, stopped_once}

-- a thread with the period of its level, and the tick at which its first window begins
pub record Owner : Type 0 where
  pub id : ThreadId
  pub period : ℕ
  pub since : ℕ

-- the period of a level, and 0 where there is no such line
abbrev pub period_at : Heading → ℕ → ℕ
period_at h j = option_map_or (λ row. row.period) (slice_get h.levels j) 0

-- the level of a process, and 0 where there is no such line
abbrev pub level_at : Heading → ℕ → ℕ
level_at h p = option_map_or (λ line. line.level) (slice_get h.processes p) 0

abbrev pub main_owner : Heading → ℕ → Owner
main_owner h p =
    record { id = record { process = p; serial = 0 }; period = period_at h (level_at h p); since = 0 }

-- the ticks of the window that come after tick now
abbrev pub ticks_left : ℕ → ℕ → ℕ
ticks_left period now = period - 1 - now % period

abbrev pub child_owner : Heading → ℕ → ℕ → ℕ → ℕ → Owner
child_owner h now p serial level = record {
  id = record { process = p; serial = serial };
  period = period_at h level;
  since = suc now + ticks_left (period_at h level) now;
}

-- The child that the event of the thread makes. Its windows begin with the next one of its level.
abbrev pub made_of : Heading → ℕ → ThreadId → Option Event → List Owner
made_of h now x (Some (Event.Create serial level quota)) =
    if x.serial == 0 then child_owner h now x.process serial level ∷ [] else []
made_of h now x _ = []

abbrev pub made_in : Heading → ℕ → Entry → List Owner
made_in h now e = option_map_or (λ x. made_of h now x e.event) (thread_of e.label) []

-- the mains of so many processes
abbrev pub mains : Heading → ℕ → List Owner
mains h n = map (main_owner h) (below n)

-- The main of each process, and then the children in the order in which they were made.
abbrev pub owners : Heading → List Entry → List Owner
owners h [] = mains h (length h.processes)
owners h (e ∷ past) = owners h past ++ made_in h (length past) e

-- the entries from the thread's first window on
abbrev pub own_entries : ℕ → List Entry → List Entry
own_entries since past = take (length past - since) past

-- what the thread did in each of its windows that have ended
abbrev pub did_of : Owner → List Entry → List Did
did_of o past = map (did_in o.id) (ended_windows o.period (own_entries o.since past))

-- the thread's numbers
abbrev pub numbers_of : List Entry → Owner → WindowCounts
numbers_of past o = counts_of (stopped_once (did_of o past))
