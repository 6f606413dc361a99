-- What it says of a past that nothing overran.
use Rattle.std.specs.Prelude.{ℕ, ◌≡◌, ◌+◌, ◌%◌, ◌<◌, ◌≤◌, true, ◌||◌, List, length}
use Rattle.std.specs.List.{list_any}
use Rattle.dk_config.specs.Configuration.{Configuration}
use Rattle.dk_config.specs.Windows.{period, main_level}
use Rattle.dk_trace.specs.declared.Entry.{Entry}
use Rattle.dk_trace.specs.Members.{Has}
use Rattle.dk_trace.specs.Entries.{does, is_wait, stops, window}
use Rattle.dk_trace.specs.Threads.{Thread, threads, share}
use Rattle.dk_trace.specs.Guarantees.{past_at}
use Rattle.dk_ledger.specs.Heading.{Heading}
use Rattle.dk_window_report.specs.Windows.{did_in}
use Rattle.dk_window_report.specs.Owners.{Owner, owners, period_at, level_at, did_of}

-- the header's levels and processes are those of the configuration
pub record IsHeadingOf (c : Configuration) (h : Heading) : Type 0 where
  pub processes : length h.processes ≡ length c.processes
  pub levels : (p : ℕ) → level_at h p ≡ main_level c p
  pub periods : (i : ℕ) → period_at h i ≡ period c i

-- the entries of the window of the thread's level that starts at s
abbrev pub window_from : Configuration → List Entry → Thread → ℕ → List Entry
window_from c past x s = window c s (past_at past (s + period c x.level)) x.level

-- A window of the thread's level starts at s and has ended, and the thread has begun and has a share of it. (A child has
-- none before it begins, and a main begins at tick 0.)
pub record HadWindow (c : Configuration) (past : List Entry) (x : Thread) (s : ℕ) : Type 0 where
  pub thread : Has (threads c past) x
  pub level : 0 < period c x.level
  pub start : s % period c x.level ≡ 0
  pub ended : s + period c x.level ≤ length past
  pub begun : x.start ≤ s
  pub share : 0 < share c (past_at past s) x s

abbrev pub owner_of : Configuration → Thread → Owner
owner_of c x = record { id = x.id; period = period c x.level; since = x.start }

-- what the thread did in it is among what is counted of the thread
pub record IsCounted (c : Configuration) (h : Heading) (past : List Entry) (x : Thread) (s : ℕ) : Type 0 where
  pub owner : Has (owners h past) (owner_of c x)
  pub did : Has (did_of (owner_of c x) past) (did_in x.id (window_from c past x s))

abbrev pub AllCounted : Configuration → Heading → List Entry → Type 0
AllCounted c h past = (x : Thread) (s : ℕ) → HadWindow c past x s → IsCounted c h past x s

-- the thread waited in it, or was stopped in it
abbrev pub IsWaited : Configuration → List Entry → Thread → ℕ → Type 0
IsWaited c past x s =
    (list_any (does is_wait x.id) (window_from c past x s) || list_any (stops x.id) (window_from c past x s)) ≡ true

abbrev pub AllWaited : Configuration → List Entry → Type 0
AllWaited c past = (x : Thread) (s : ℕ) → HadWindow c past x s → IsWaited c past x s
