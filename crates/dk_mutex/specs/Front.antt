-- What is kept in mind of the mutexes that are held.
use Rattle.std.specs.Prelude.{ℕ, ◌≡◌, ◌<◌, ◌≤◌, ◌⊎◌, false, true, length, List, [], ◌∷◌, Option, None, Some, is_none, is_some, slice_get}
use Rattle.std.specs.List.{list_any}
use Rattle.dk_trace.specs.declared.ThreadId.{ThreadId}
use Rattle.dk_mutex.specs.declared.front.FirstHold.{FirstHold}
use Rattle.dk_mutex.specs.declared.front.Front.{Front}
use Rattle.dk_mutex.specs.declared.outer.Outer.{Outer}
use Rattle.dk_mutex.specs.declared.row.Holder.{Holder}
use Rattle.dk_mutex.specs.declared.row.Lockable.{Lockable}
use Rattle.dk_mutex.specs.Rows.{is_by, is_by_at, is_held, is_held_at, is_holder}
use Rattle.dk_mutex.specs.Table.{ceiling_at, given_to, hold_left, holder_at, holds_within, is_free, left_at}

-- a level before which no holder runs, the holder that runs there, if anybody holds a mutex, and what it has
-- left of its innermost one
pub record IsFrontOf (front : Front) (rows : List Lockable) : Type 0 where
  pub held : is_some front.holder ≡ list_any is_held rows
  pub before : (k : ℕ) → k < front.level → holder_at k rows ≡ None
  pub holder : front.holder ≡ holder_at front.level rows
  pub left : (x : ThreadId) → front.holder ≡ Some x → front.left ≡ hold_left x rows

-- a level before which no holder runs, and the holder that runs there, if anybody holds a mutex
pub record IsFirst (level : ℕ) (first : Option ThreadId) (rows : List Lockable) : Type 0 where
  pub held : is_some first ≡ list_any is_held rows
  pub before : (k : ℕ) → k < level → holder_at k rows ≡ None
  pub holder : first ≡ holder_at level rows

-- the mutexes before these locks, of which the newest is the last
abbrev pub unlocked : List Outer → List Lockable → List Lockable
unlocked [] rows = rows
unlocked (outer ∷ later) rows = given_to None outer.mutex (unlocked later rows)

-- the mutex is the innermost one of whoever holds it
abbrev pub IsInnermost : ℕ → List Lockable → Type 0
IsInnermost m rows = (x : ThreadId) (n : ℕ) → left_at x rows m ≡ Some n → hold_left x rows ≡ n

-- who ran first before each of these locks runs first of the mutexes as they would be without it and the later ones, and
-- without the later ones what it locked is innermost
abbrev pub AreOuter : List Outer → List Lockable → Type 0
AreOuter [] rows = Unit {0}
AreOuter (outer ∷ later) rows = IsFirst outer.level outer.holder (unlocked (outer ∷ later) rows)
    × IsInnermost outer.mutex (unlocked later rows) × AreOuter later rows

-- the mutex that was locked last, as far as it is known
abbrev pub IsNewest : Option ℕ → List Lockable → Type 0
IsNewest None rows = Unit {0}
IsNewest (Some m) rows = IsInnermost m rows

-- the ceiling is the least of those that are held, and the thread holds one of it
pub record IsLeastHold (hold : FirstHold) (rows : List Lockable) : Type 0 where
  pub before : (k : ℕ) → k < hold.ceiling → list_any (is_held_at k) rows ≡ false
  pub by : list_any (is_by_at hold.ceiling hold.thread) rows ≡ true

-- a mutex of the least ceiling that is held, and none where none is
abbrev pub IsFirstHold : Option FirstHold → List Lockable → Type 0
IsFirstHold None rows = list_any is_held rows ≡ false
IsFirstHold (Some hold) rows = IsLeastHold hold rows

-- the row of the mutex but for what its holder has left of it
pub record IsRow (row : Lockable) (m : ℕ) (rows : List Lockable) : Type 0 where
  pub after : Option Holder
  pub at : slice_get rows m ≡ Some (record row { holder = after })
  pub by : (x : ThreadId) → is_holder x after ≡ is_by x row
  pub held : is_none after ≡ is_none row.holder

-- a free mutex that the thread can lock: what it gets is less than what it has left of each other one
pub record IsLockable (h : Holder) (m : ℕ) (rows : List Lockable) : Type 0 where
  pub known : m < length rows
  pub free : is_free m rows ≡ true
  pub least : holds_within h.thread h.left rows ≡ false

-- The thread runs at the level, and no other holder runs at it or before it. Its own level is the one at which it
-- runs where it holds nothing.
pub record RunsFirst (x : ThreadId) (own level : ℕ) (rows : List Lockable) : Type 0 where
  pub within : level ≤ own
  pub before : (k : ℕ) → k < level → holder_at k rows ≡ None
  pub there : (holder_at level rows ≡ Some x) ⊎ ((level ≡ own) × (holder_at level rows ≡ None))

-- if there is a next front, it is that of the mutexes once the thread has locked one of the ceiling
abbrev pub KeepsFront : Front → ℕ → Holder → Option Front → Type 0
KeepsFront front ceiling h after =
    (rows : List Lockable) (m : ℕ) (next : Front) → IsFrontOf front rows → IsLockable h m rows
    → ceiling_at rows m ≡ ceiling → after ≡ Some next → IsFrontOf next (given_to (Some h) m rows)
