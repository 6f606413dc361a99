-- What the laws of the holders say, of every configuration and every past.
use Rattle.std.specs.Prelude.{ℕ, List, ◌∷◌, ◌≡◌, ◌<◌, ◌&&◌, length, map, nat_le, true, false, if◌then◌else◌, None, Some, option_map}
use Rattle.dk_config.specs.Configuration.{Configuration}
use Rattle.dk_config.specs.declared.TheConstants.{MAX_PROCESSES}
use Rattle.dk_trace.specs.declared.ThreadId.{ThreadId}
use Rattle.dk_trace.specs.declared.Entry.{Entry}
use Rattle.dk_trace.specs.declared.Event.{Event}
use Rattle.dk_trace.specs.Entries.{is_of, is_same, stops, thread_of}
use Rattle.dk_trace.specs.Threads.{Thread}
use Rattle.dk_trace.specs.Choices.{holder_at as past_holder_at}
use Rattle.dk_trace.specs.Holds.{effective_level as past_level, greatest_left, held_by, innermost_left, is_held, is_holding}
use Rattle.dk_trace.specs.Jobs.{thread_body_left}
use Rattle.dk_trace.specs.Refusals.{lock_refusal as past_lock_refusal, unlock_refusal as past_unlock_refusal}
use Rattle.dk_mutex.specs.declared.row.Lockable.{Lockable}
use Rattle.dk_mutex.specs.Rows.{freed, left_up_to, spent}
use Rattle.dk_mutex.specs.Recount.{AreMutexes, HasLevels, HoldersFit, IsRecount, LastIsLeast, emptied, last_locked, moves_no_hold, without_event}
use Rattle.dk_mutex.specs.Table.{effective_level, given_to, hold_left, hold_of, holder_at, holds_within, innermost, is_free, is_held_by, left_at, lock_refusal, unlock_refusal}

-- A tick without an event of a thread takes a tick from each of its holds.
abbrev pub TickSpendsHolds : Type 0
TickSpendsHolds =
    (c : Configuration) (past : List Entry) (rows : List Lockable) (id : ThreadId) (e : Entry)
    → IsRecount c past rows → is_of id e ≡ true → e.event ≡ None → IsRecount c (e ∷ past) (map (spent id) rows)

-- A tick of no thread takes nothing.
abbrev pub OthersKeepHolds : Type 0
OthersKeepHolds =
    (c : Configuration) (past : List Entry) (rows : List Lockable) (e : Entry) → IsRecount c past rows
    → thread_of e.label ≡ None → IsRecount c (e ∷ past) rows

-- A lock of a mutex that nobody holds gives it to the thread, for its longest hold.
abbrev pub LockAddsHold : Type 0
LockAddsHold =
    (c : Configuration) (past : List Entry) (rows : List Lockable) (id : ThreadId) (level m : ℕ) (e : Entry)
    → IsRecount c (without_event e ∷ past) rows → is_of id e ≡ true → e.event ≡ Some (Event.Lock m)
    → m < length c.mutexes → is_free m rows ≡ true
    → IsRecount c (e ∷ past) (given_to (Some (record { thread = id; level = level; left = hold_of rows m })) m rows)

-- An unlock of a mutex that the thread holds frees it.
abbrev pub UnlockEndsHold : Type 0
UnlockEndsHold =
    (c : Configuration) (past : List Entry) (rows : List Lockable) (id : ThreadId) (m : ℕ) (e : Entry)
    → IsRecount c (without_event e ∷ past) rows → is_of id e ≡ true → e.event ≡ Some (Event.Unlock m)
    → is_held_by id rows m ≡ true → IsRecount c (e ∷ past) (given_to None m rows)

-- The level at which a thread runs is the past's.
abbrev pub TellsLevels : Type 0
TellsLevels =
    (c : Configuration) (past : List Entry) (rows : List Lockable) (x : Thread) → IsRecount c past rows
    → HoldersFit c past → effective_level x.id x.level rows ≡ past_level c past x

-- The holder that runs at a level is the past's.
abbrev pub TellsHolders : Type 0
TellsHolders =
    (c : Configuration) (past : List Entry) (rows : List Lockable) (k : ℕ) → IsRecount c past rows
    → HasLevels c past rows → HoldersFit c past
    → holder_at k rows ≡ option_map (λ x. x.id) (past_holder_at c past k)

-- For how long a thread may still keep a faster level waiting is the past's.
abbrev pub TellsDelays : Type 0
TellsDelays =
    (c : Configuration) (past : List Entry) (rows : List Lockable) (x : ThreadId) (j : ℕ) → IsRecount c past rows
    → AreMutexes c past → left_up_to x j rows ≡ greatest_left c j (held_by x past)

-- An event that is no lock and no unlock takes all holds of those that it stops, and none of others.
abbrev pub EventEndsHolds : Type 0
EventEndsHolds =
    (c : Configuration) (past : List Entry) (rows next : List Lockable) (e : Entry)
    → IsRecount c (without_event e ∷ past) rows → moves_no_hold e.event ≡ true → map emptied next ≡ map emptied rows
    → ((x : ThreadId) (m : ℕ) → left_at x next m ≡ (if stops x e then None else left_at x rows m))
    → IsRecount c (e ∷ past) next

-- What a thread gives up is all that it holds, and nothing of others.
abbrev pub GivingUpEndsHolds : Type 0
GivingUpEndsHolds =
    (rows : List Lockable) (id x : ThreadId) (m : ℕ)
    → left_at x (map (freed id) rows) m ≡ (if is_same x id then None else left_at x rows m)

-- The mutexes stay.
abbrev pub GivingUpKeepsMutexes : Type 0
GivingUpKeepsMutexes =
    (rows : List Lockable) (id : ThreadId) → map emptied (map (freed id) rows) ≡ map emptied rows

-- Whether a thread holds a mutex is the past's.
abbrev pub TellsHeld : Type 0
TellsHeld =
    (c : Configuration) (past : List Entry) (rows : List Lockable) (x : ThreadId) (m : ℕ) → IsRecount c past rows
    → is_held_by x rows m ≡ is_held m (held_by x past)

-- A thread's innermost mutex is the one that it locked last.
abbrev pub TellsInnermost : Type 0
TellsInnermost =
    (c : Configuration) (past : List Entry) (rows : List Lockable) (x : ThreadId) → IsRecount c past rows
    → LastIsLeast c (held_by x past) → innermost x rows ≡ last_locked (held_by x past)

-- For how long it may still hold that one is the past's.
abbrev pub TellsLeft : Type 0
TellsLeft =
    (c : Configuration) (past : List Entry) (rows : List Lockable) (x : ThreadId) → IsRecount c past rows
    → LastIsLeast c (held_by x past) → hold_left x rows ≡ innermost_left c (held_by x past)

-- Whether it holds one for at most so many ticks more is told by that one.
abbrev pub TellsWithin : Type 0
TellsWithin =
    (c : Configuration) (past : List Entry) (rows : List Lockable) (x : ThreadId) (most : ℕ) → IsRecount c past rows
    → LastIsLeast c (held_by x past)
    → holds_within x most rows ≡ (is_holding (held_by x past) && nat_le (innermost_left c (held_by x past)) most)

-- A mutex that no thread holds is free.
abbrev pub UnheldAreFree : Type 0
UnheldAreFree =
    (c : Configuration) (past : List Entry) (rows : List Lockable) (m : ℕ) → IsRecount c past rows
    → ((x : ThreadId) → is_held m (held_by x past) ≡ false) → is_free m rows ≡ true

-- A mutex that is free is held by no thread.
abbrev pub FreeAreUnheld : Type 0
FreeAreUnheld =
    (c : Configuration) (past : List Entry) (rows : List Lockable) (m : ℕ) → IsRecount c past rows
    → is_free m rows ≡ true → (x : ThreadId) → is_held m (held_by x past) ≡ false

-- A lock is refused as by the past.
abbrev pub RefusesLocks : Type 0
RefusesLocks =
    (c : Configuration) (now : ℕ) (past : List Entry) (rows : List Lockable) (x : Thread) (m : ℕ)
    → IsRecount c past rows → LastIsLeast c (held_by x.id past) → x.id.process < MAX_PROCESSES
    → lock_refusal x.id m (thread_body_left c now past x) rows ≡ past_lock_refusal c now past x m

-- An unlock is refused as by the past.
abbrev pub RefusesUnlocks : Type 0
RefusesUnlocks =
    (c : Configuration) (past : List Entry) (rows : List Lockable) (x : Thread) (m : ℕ) → IsRecount c past rows
    → LastIsLeast c (held_by x.id past) → unlock_refusal x.id m rows ≡ past_unlock_refusal past x m
