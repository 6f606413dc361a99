-- When the table of threads is the recount of a past.
use Rattle.std.specs.Prelude.{ℕ, ◌≡◌, ◌+◌, ◌<◌, Bool, true, false, not, ◌&&◌, ◌||◌, nat_lt, if◌then◌else◌, List, ◌∷◌, length, map, filter_map, Option, Some, None, is_some}
use Rattle.dk_config.specs.Configuration.{Configuration}
use Rattle.dk_config.specs.Windows.{slots}
use Rattle.dk_trace.specs.declared.ThreadId.{ThreadId}
use Rattle.dk_trace.specs.declared.Label.{Label}
use Rattle.dk_trace.specs.declared.Event.{Event}
use Rattle.dk_trace.specs.declared.Entry.{Entry}
use Rattle.dk_trace.specs.Entries.{is_same}
use Rattle.dk_trace.specs.Audit.{without_event}
use Rattle.dk_trace.specs.Threads.{Thread, family, is_main, is_void, is_ended_by, end_of}
use Rattle.dk_threads.specs.declared.row.State.{State}
use Rattle.dk_threads.specs.declared.row.ThreadRow.{ThreadRow}
use Rattle.dk_threads.specs.Table.{Table, rows_of, serials_at, most_at}

-- what a thread of the past is at the tick
abbrev pub state_of : ℕ → Thread → State
state_of tick x =
    if is_some x.stop then State.Stopped
    else if nat_lt tick x.start then State.Starting
    else State.Live

-- A main has a row for ever, and a child until its end. One that was stopped before its start has none.
abbrev pub has_row : Configuration → ℕ → Thread → Bool
has_row c tick x = is_main x || (not (is_void x) && not (is_ended_by c tick x))

-- the thread of that name, where it is a main, or a child that is neither ended nor void
abbrev pub is_there : Configuration → ℕ → ThreadId → Thread → Bool
is_there c tick x y = is_same x y.id && has_row c tick y

abbrev pub end_in_row : Configuration → Thread → Option ℕ
end_in_row c x = if is_main x then None else end_of c x

-- the row of a thread of the past, but for its slot, which the past doesn't tell
abbrev pub counted_row : Configuration → ℕ → Thread → ThreadRow
counted_row c tick x = record {
  id = x.id;
  level = x.level;
  slot = 0;
  state = state_of tick x;
  start = x.start;
  end = end_in_row c x;
}

abbrev pub row_at : Configuration → ℕ → Thread → Option ThreadRow
row_at c tick x = if has_row c tick x then Some (counted_row c tick x) else None

-- the rows of a process at the tick, by serial
abbrev pub counted_rows : Configuration → ℕ → List Entry → ℕ → List ThreadRow
counted_rows c tick past p = filter_map (row_at c tick) (family c p past)

abbrev pub unplaced : ThreadRow → ThreadRow
unplaced row = record row { slot = 0 }

-- The table has, of each process, the rows of the threads that the past gives, read at the tick.
pub record IsRecount (c : Configuration) (tick : ℕ) (past : List Entry) (table : Table) : Type 0 where
  pub levels : table.levels ≡ length c.levels
  pub processes : length table.families ≡ length c.processes
  pub most : (p : ℕ) → p < length c.processes → most_at table p ≡ slots c p
  pub rows : (p : ℕ) → p < length c.processes → map unplaced (rows_of table p) ≡ counted_rows c tick past p
  pub serials : (p : ℕ) → p < length c.processes → serials_at table p + 1 ≡ length (family c p past)

-- The four stages of a tick. Once it is open, the rows are read at the tick.
abbrev pub IsOpen : Configuration → List Entry → Table → Type 0
IsOpen c past table = IsRecount c (length past) past table

-- once the tick is charged, its entry stands without an event
abbrev pub IsCharged : Configuration → Entry → List Entry → Table → Type 0
IsCharged c e past table = IsRecount c (length past) (without_event e ∷ past) table

-- once its event is booked, its entry stands whole
abbrev pub IsBooked : Configuration → Entry → List Entry → Table → Type 0
IsBooked c e past table = IsRecount c (length past) (e ∷ past) table

-- and so while it is closed: the ends and starts of the next tick are left to its opening
abbrev pub IsClosed : Configuration → Entry → List Entry → Table → Type 0
IsClosed c e past table = IsBooked c e past table

-- an event that makes no thread and stops none
abbrev pub leaves_threads : Option Event → Bool
leaves_threads (Some Event.Exit) = false
leaves_threads (Some (Event.Fault kind)) = false
leaves_threads (Some (Event.Create serial level quota)) = false
leaves_threads (Some (Event.Delete serial)) = false
leaves_threads _ = true

abbrev pub main_id : ℕ → ThreadId
main_id p = record { process = p; serial = 0 }

abbrev pub entry_of : Label → Event → Entry
entry_of label event = record { label = label; event = Some event }
