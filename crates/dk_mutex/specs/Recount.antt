-- When a table of mutexes is the recount of a past.
use Rattle.std.specs.Prelude.{Bool, false, ℕ, ◌≡◌, ◌<◌, ◌==◌, true, length, if◌then◌else◌, List, [], ◌∷◌, map, slice_get, Option, Some, None, option_map}
use Rattle.dk_config.specs.Configuration.{Configuration}
use Rattle.dk_trace.specs.declared.ThreadId.{ThreadId}
use Rattle.dk_trace.specs.declared.Event.{Event}
use Rattle.dk_trace.specs.declared.Entry.{Entry}
use Rattle.dk_trace.specs.Entries.{is_same}
use Rattle.dk_trace.specs.Members.{Has}
use Rattle.dk_trace.specs.Threads.{Thread, threads}
use Rattle.dk_trace.specs.Holds.{Hold, held_by, hold_left, is_holding, effective_level}
use Rattle.dk_mutex.specs.declared.row.Holder.{Holder}
use Rattle.dk_mutex.specs.declared.row.Lockable.{Lockable}
use Rattle.dk_mutex.specs.Rows.{rows_of}
use Rattle.dk_mutex.specs.Table.{left_at}

-- the hold of the mutex among those of a thread
abbrev pub hold_at : ℕ → List Hold → Option Hold
hold_at m [] = None
hold_at m (h ∷ held) =
    let further = hold_at m held in
    if h.mutex == m then Some h else further

-- for how many ticks more the thread may hold the mutex by the past, where it does
abbrev pub counted_left : Configuration → List Entry → ThreadId → ℕ → Option ℕ
counted_left c past x m = option_map (hold_left c) (hold_at m (held_by x past))

-- the entry before its thread's event
abbrev pub without_event : Entry → Entry
without_event e = record e { event = None }

abbrev pub emptied : Lockable → Lockable
emptied row = record row { holder = None }

-- The table has the mutexes of the configuration, and of each thread the holds that the past gives, with
-- the ticks that are left of each.
pub record IsRecount (c : Configuration) (past : List Entry) (rows : List Lockable) : Type 0 where
  pub mutexes : map emptied rows ≡ rows_of c
  pub holds : (x : ThreadId) (m : ℕ) → left_at x rows m ≡ counted_left c past x m

-- the table has each holder's own level
abbrev pub HasLevels : Configuration → List Entry → List Lockable → Type 0
HasLevels c past rows =
    (m : ℕ) (row : Lockable) (h : Holder) (x : Thread) → slice_get rows m ≡ Some row → row.holder ≡ Some h
    → Has (threads c past) x → is_same x.id h.thread ≡ true → h.level ≡ x.level

-- What the table's answers need of a past: each mutex that is held is there, whoever holds is a thread, and no two holders run at one level.
pub record HoldersFit (c : Configuration) (past : List Entry) : Type 0 where
  pub mutexes : (x : ThreadId) (h : Hold) → Has (held_by x past) h → h.mutex < length c.mutexes
  pub known : (x : ThreadId) → is_holding (held_by x past) ≡ true → (y : Thread) × Has (threads c past) y × (y.id ≡ x)
  pub apart : (x y : Thread) → Has (threads c past) x → Has (threads c past) y → is_holding (held_by x.id past) ≡ true
      → is_holding (held_by y.id past) ≡ true
      → effective_level c past x ≡ effective_level c past y → x ≡ y

-- each mutex that is held is there
abbrev pub AreMutexes : Configuration → List Entry → Type 0
AreMutexes c past = (x : ThreadId) (h : Hold) → Has (held_by x past) h → h.mutex < length c.mutexes

-- the mutex that was locked last
abbrev pub last_locked : List Hold → Option ℕ
last_locked [] = None
last_locked (h ∷ held) = Some h.mutex

-- of a thread's holds the one that it locked last may last the shortest
abbrev pub LastIsLeast : Configuration → List Hold → Type 0
LastIsLeast c [] = Unit {0}
LastIsLeast c (h ∷ held) = (k : Hold) → Has held k → hold_left c h < hold_left c k

-- an event that is no lock and no unlock
abbrev pub moves_no_hold : Option Event → Bool
moves_no_hold (Some (Event.Lock m)) = false
moves_no_hold (Some (Event.Unlock m)) = false
moves_no_hold _ = true
