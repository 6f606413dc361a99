-- The rows of threads, and what becomes of one.
use Rattle.std.specs.Prelude.{ℕ, ◌≡◌, ◌<◌, ◌≤◌, Bool, true, false, ◌&&◌, ◌==◌, nat_lt, if◌then◌else◌, List, [], ◌∷◌, Option, Some, None}
use Rattle.std.specs.List.{list_any}
use Rattle.std.specs.Option.{option_map_or}
use Rattle.dk_config.specs.declared.TheConstants.{MAX_CHILDREN}
use Rattle.dk_trace.specs.declared.ThreadId.{ThreadId}
use Rattle.dk_trace.specs.Entries.{is_same}
use Rattle.dk_windows.specs.Clock.{Clock, end_at}
use Rattle.dk_threads.specs.declared.row.State.{State}
use Rattle.dk_threads.specs.declared.row.ThreadRow.{ThreadRow}

-- whether the row is of the thread of that name
abbrev pub is_row_of : ThreadId → ThreadRow → Bool
is_row_of x row = is_same x row.id

abbrev pub is_starting : State → Bool
is_starting State.Starting = true
is_starting _ = false

abbrev pub is_stopped : State → Bool
is_stopped State.Stopped = true
is_stopped _ = false

-- whether it is the child's start
abbrev pub starts_at : ℕ → ThreadRow → Bool
starts_at now row = is_starting row.state && (row.start == now)

-- at the tick now a child whose start it is becomes live
abbrev pub started : ℕ → ThreadRow → ThreadRow
started now row = record row { state = if starts_at now row then State.Live else row.state }

-- A child that is stopped at the clock's tick ends with the window of its level. One that would start
-- later has no row any more.
abbrev pub stopped : Clock → ThreadRow → Option ThreadRow
stopped clock row =
    if nat_lt clock.tick row.start then None
    else Some (record row { state = State.Stopped; end = Some (end_at clock row.level) })

-- where the child of that name is stopped
abbrev pub stopped_child : ThreadId → Clock → ThreadRow → Option ThreadRow
stopped_child x clock row = if is_row_of x row then stopped clock row else Some row

-- where all children are stopped that weren't before
abbrev pub stopped_with_main : Clock → ThreadRow → Option ThreadRow
stopped_with_main clock row = if is_stopped row.state then Some row else stopped clock row

abbrev pub ends_at : ℕ → ThreadRow → Bool
ends_at now row = option_map_or (λ tick. tick == now) row.end false

-- where the children end whose end is the tick
abbrev pub kept : ℕ → ThreadRow → Option ThreadRow
kept now row = if ends_at now row then None else Some row

abbrev pub has_slot : ℕ → ThreadRow → Bool
has_slot slot row = row.slot == slot

abbrev pub is_taken : List ThreadRow → ℕ → Bool
is_taken rows slot = list_any (has_slot slot) rows

-- a child of a serial above one number and up to another, in a slot of its own
pub record IsChild (levels low high : ℕ) (row : ThreadRow) : Type 0 where
  pub later : low < row.id.serial
  pub given : row.id.serial ≤ high
  pub level : row.level < levels
  pub some_slot : 1 ≤ row.slot
  pub last_slot : row.slot ≤ MAX_CHILDREN

-- Children by rising serial, above one number and up to another, of which no two have one slot.
abbrev pub AreChildren : ℕ → ℕ → ℕ → List ThreadRow → Type 0
AreChildren levels low high [] = Unit {0}
AreChildren levels low high (row ∷ rows) =
    IsChild levels low high row × (is_taken rows row.slot ≡ false) × AreChildren levels row.id.serial high rows
