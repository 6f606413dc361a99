-- Which thread holds each mutex after a past, which hold an entry ends, and which it begins. A past has its newest entry
-- first. A hold is from the tick after the thread's lock up to the tick of the entry that ends it.
use Rattle.std.specs.Prelude.{ℕ, ◌≡◌, ◌<◌, ◌+◌, Bool, false, ◌==◌, ◌||◌, if◌then◌else◌, List, [], ◌∷◌, length, slice_get, Option, Some, None, option_map}
use Rattle.std.specs.Option.{option_or}
use Rattle.dk_config.specs.declared.TheConstants.{MAX_MUTEXES}
use Rattle.dk_trace.specs.declared.ThreadId.{ThreadId}
use Rattle.dk_trace.specs.declared.Event.{Event}
use Rattle.dk_trace.specs.declared.Entry.{Entry}
use Rattle.dk_trace.specs.Entries.{does, has_event, stops, thread_of}
use Rattle.dk_ledger.specs.declared.line.LedgerLine.{LedgerLine}
use Rattle.dk_holds.specs.declared.holding.Holding.{Holding}

abbrev pub is_lock_of : ℕ → Event → Bool
is_lock_of m (Event.Lock k) = k == m
is_lock_of m _ = false

abbrev pub is_unlock_of : ℕ → Event → Bool
is_unlock_of m (Event.Unlock k) = k == m
is_unlock_of m _ = false

-- The entry ends a hold of the mutex by the thread: the thread unlocks it, is stopped, or somebody locks the mutex.
abbrev pub ends : ℕ → ThreadId → Entry → Bool
ends m x e = does (is_unlock_of m) x e || (stops x e || has_event (is_lock_of m) e)

-- the hold of the mutex that the entry of tick n begins
abbrev pub begun : ℕ → ℕ → Entry → Option Holding
begun m n e =
    if has_event (is_lock_of m) e
    then option_map (λ x. record { thread = x; since = n + 1 }) (thread_of e.label)
    else None

-- of a hold, what goes on behind the entry
abbrev pub going_on : ℕ → Entry → Option Holding → Option Holding
going_on m e None = None
going_on m e (Some h) = if ends m h.thread e then None else Some h

-- of a hold, what the entry ends
abbrev pub ended : ℕ → Entry → Option Holding → Option Holding
ended m e None = None
ended m e (Some h) = if ends m h.thread e then Some h else None

-- the hold of the mutex behind the entry of tick n
abbrev pub behind : ℕ → ℕ → Entry → Option Holding → Option Holding
behind m n e held = option_or (begun m n e) (going_on m e held)

-- the hold of the mutex behind the past, where there is one
abbrev pub holding : ℕ → List Entry → Option Holding
holding m [] = None
holding m (e ∷ past) = behind m (length past) e (holding m past)

-- the entry of the line's last tick
abbrev pub last_entry : LedgerLine → Entry
last_entry l = record { label = l.label; event = l.event }

-- the holds of all mutexes behind the past
abbrev pub AreHolders : List Entry → List (Option Holding) → Type 0
AreHolders past rows = (m : ℕ) → m < MAX_MUTEXES → slice_get rows m ≡ Some (holding m past)
