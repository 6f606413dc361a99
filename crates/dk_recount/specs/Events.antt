-- What the event calls change in the tables, when they refuse, and what they need.
use Rattle.std.specs.Prelude.{ℕ, ◌≡◌, ◌*◌, ◌<◌, ◌≤◌, ◌^◌, Bool, true, false, not, ◌||◌, ◌==◌, nat_lt, List, [], ◌∷◌, length, slice_get, slice_index, Option, Some, None, is_some}
use Rattle.std.specs.Option.{option_map_or}
use Rattle.dk_config.specs.declared.TheConstants.{MAX_SPAN}
use Rattle.dk_config.specs.Configuration.{Configuration}
use Rattle.dk_trace.specs.declared.ThreadId.{ThreadId}
use Rattle.dk_trace.specs.declared.Label.{Label}
use Rattle.dk_trace.specs.declared.Work.{Work}
use Rattle.dk_trace.specs.declared.Event.{Event}
use Rattle.dk_trace.specs.declared.Refusal.{Refusal}
use Rattle.dk_trace.specs.declared.Entry.{Entry}
use Rattle.dk_trace.specs.Entries.{thread_of, quiet}
use Rattle.dk_trace.specs.Jobs.{body_left}
use Rattle.dk_trace.specs.Refusals.{first_refusal}
use Rattle.dk_trace.specs.Audit.{row_of, done_refusal, work_of}
use Rattle.dk_mutex.specs.declared.row.Lockable.{Lockable}
use Rattle.dk_mutex.specs.Table.{effective_level, given_to, hold_left, hold_of, innermost, is_free, lock_refusal, unlock_refusal}
use Rattle.dk_demand.specs.Cells.{Cells, held_cells}
use Rattle.dk_demand.specs.Levels.{adjusted}
use Rattle.dk_slack.specs.Wishes.{asked as asked_wish}
use Rattle.dk_ready.specs.Roster.{seat_at}
use Rattle.dk_recount.specs.Jobs.{MayClose, job_closed}
use Rattle.dk_recount.specs.Tables.{Tables, IsSound, node_in, HasFamilies}
use Rattle.dk_recount.specs.Charging.{level_in}
use Rattle.dk_recount.specs.Recount.{IsCharged, IsBooked}

abbrev pub entry_of : Label → Option Event → Entry
entry_of label event = record { label = label; event = event }

abbrev pub with_event : Label → Event → Entry
with_event label event = entry_of label (Some event)

-- no event, or one that the tables aren't told of
abbrev pub IsUntold : Option Event → Type 0
IsUntold None = Unit {0}
IsUntold (Some (Event.Put value)) = Unit {0}
IsUntold (Some (Event.Refused refusal)) = Unit {0}
IsUntold _ = ⊥

-- The tick is charged, and the thread is in a call at its end.
pub record IsCalling (x : ThreadId) (c : Configuration) (label : Label) (past : List Entry) (d : Tables) : Type 0 where
  pub charged : IsCharged c label past d
  pub caller : thread_of label ≡ Some x
  pub call : work_of label ≡ Work.Call

-- the refusal of the call that this event would end, by the past and the tick's entry without it
abbrev pub refusal_of : Configuration → Label → List Entry → ThreadId → Event → Option Refusal
refusal_of c label past x event =
    option_map_or (λ row. done_refusal c (length past) (quiet label ∷ past) row event) (row_of c past x) None

-- What a call by the tables owes: it is refused as by the past, and where it isn't, it may be made, and books the
-- event.
pub record CallIsRight (x : ThreadId) (event : Event) (refusal : Option Refusal) (May : Type 0) (new : Tables)
    (c : Configuration) (label : Label) (past : List Entry) (d : Tables) : Type 0 where
  pub refuses : refusal ≡ refusal_of c label past x event
  pub may : refusal ≡ None → May
  pub done : refusal ≡ None → IsBooked c (with_event label event) past new

-- it holds of all tables in which the thread is in a call
abbrev pub Always : (ThreadId → Configuration → Label → List Entry → Tables → Type 0) → Type 0
Always Holds =
    (x : ThreadId) (c : Configuration) (label : Label) (past : List Entry) (d : Tables) → IsCalling x c label past d
    → IsSound d → HasFamilies d → Holds x c label past d

-- the level at which a thread runs, by these holders
abbrev pub runs_at : Tables → List Lockable → ThreadId → ℕ
runs_at d rows x = effective_level x (level_in d x) rows

-- the levels from one up to another wait for other holds
abbrev pub cells_held : ℕ → ℕ → ℕ → ℕ → Cells → Cells
cells_held first level before after d = held_cells level first before after d

-- Wait.

abbrev pub wait_refusal_in : Tables → ThreadId → Option Refusal
wait_refusal_in d x = first_refusal ((is_some (innermost x d.mutexes), Refusal.HoldsWait) ∷ [])

abbrev pub waited : ThreadId → Tables → Tables
waited x d = job_closed (node_in d.threads x) (level_in d x) d

abbrev pub MayWait : ThreadId → Tables → Type 0
MayWait x d = MayClose (node_in d.threads x) (level_in d x) d

-- Slack.

abbrev pub has_right : Tables → ℕ → Bool
has_right d p = option_map_or (λ right. right) (slice_get d.rights p) false

abbrev pub slack_refusal_in : Tables → ThreadId → ℕ → Option Refusal
slack_refusal_in d x amount =
    first_refusal
    ((not (has_right d x.process), Refusal.NoRight)
    ∷ ((amount == 0) || nat_lt MAX_SPAN amount, Refusal.Amount)
    ∷ [])

abbrev pub asked : ThreadId → ℕ → Tables → Tables
asked x amount d = record d {
  slack = record d.slack {
    wishes =
        asked_wish (level_in d x)
        (record { node = node_in d.threads x; amount = amount; entering = 2 * d.slack.switch }) d.slack.wishes;
  };
}

pub record MayAsk (x : ThreadId) (d : Tables) : Type 0 where
  pub node : node_in d.threads x < d.slack.nodes
  pub level : level_in d x < length d.slack.wishes

-- Lock and unlock.

abbrev pub body_in : Tables → ThreadId → ℕ
body_in d x = body_left d.jobs.switch (seat_at d.jobs (node_in d.threads x)).job

abbrev pub lock_refusal_in : Tables → ThreadId → ℕ → Option Refusal
lock_refusal_in d x m = lock_refusal x m (body_in d x) d.mutexes

abbrev pub rows_locked : ThreadId → ℕ → Tables → List Lockable
rows_locked x m d =
    given_to (Some (record { thread = x; level = level_in d x; left = hold_of d.mutexes m })) m d.mutexes

abbrev pub locked : ThreadId → ℕ → Tables → Tables
locked x m d = record d {
  mutexes = rows_locked x m d;
  demand =
      cells_held (runs_at d (rows_locked x m d) x) (runs_at d d.mutexes x) 0 (hold_left x (rows_locked x m d)) d.demand;
}

pub record MayLock (x : ThreadId) (m : ℕ) (d : Tables) : Type 0 where
  pub free : is_free m d.mutexes ≡ true
  pub level : runs_at d d.mutexes x < length d.demand.windows.periods
  pub room : (j : ℕ) → runs_at d (rows_locked x m d) x ≤ j → j < runs_at d d.mutexes x
      → adjusted 0 (hold_left x (rows_locked x m d)) (slice_index d.demand.blocking j) < 2 ^ 32

abbrev pub unlock_refusal_in : Tables → ThreadId → ℕ → Option Refusal
unlock_refusal_in d x m = unlock_refusal x m d.mutexes

abbrev pub rows_unlocked : ℕ → Tables → List Lockable
rows_unlocked m d = given_to None m d.mutexes

abbrev pub unlocked : ThreadId → ℕ → Tables → Tables
unlocked x m d = record d {
  mutexes = rows_unlocked m d;
  demand = cells_held (runs_at d d.mutexes x) (runs_at d (rows_unlocked m d) x) (hold_left x d.mutexes) 0 d.demand;
}

pub record MayUnlock (x : ThreadId) (m : ℕ) (d : Tables) : Type 0 where
  pub level : runs_at d (rows_unlocked m d) x < length d.demand.windows.periods
  pub low : (j : ℕ) → runs_at d d.mutexes x ≤ j → j < runs_at d (rows_unlocked m d) x
      → hold_left x d.mutexes ≤ slice_index d.demand.blocking j
  pub high : (j : ℕ) → runs_at d d.mutexes x ≤ j → j < runs_at d (rows_unlocked m d) x
      → adjusted (hold_left x d.mutexes) 0 (slice_index d.demand.blocking j) < 2 ^ 32
