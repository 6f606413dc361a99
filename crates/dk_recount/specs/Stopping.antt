-- What a stop changes in the tables, and what it needs of them.
use Rattle.std.specs.Prelude.{ℕ, ◌≡◌, ◌+◌, ◌-◌, ◌*◌, ◌<◌, ◌≤◌, ◌==◌, ◌⊎◌, ◌&&◌, true, false, not, nat_lt, if◌then◌else◌, List, [], ◌∷◌, length, map, slice_index, Option, Some, None, is_none}
use Rattle.std.specs.Option.{option_map_or}
use Rattle.dk_config.specs.declared.TheConstants.{MAX_THREADS}
use Rattle.dk_trace.specs.declared.ThreadId.{ThreadId}
use Rattle.dk_trace.specs.declared.Event.{Event}
use Rattle.dk_trace.specs.declared.Entry.{Entry}
use Rattle.dk_trace.specs.Entries.{is_of, is_end, has_event, main_of}
use Rattle.dk_trace.specs.declared.Refusal.{Refusal}
use Rattle.dk_trace.specs.Refusals.{first_refusal}
use Rattle.dk_threads.specs.declared.row.ThreadRow.{ThreadRow}
use Rattle.dk_threads.specs.Table.{Table, runs, child_stopped, is_child, find_row}
use Rattle.dk_threads.specs.Table.{changed_at as changed_family}
use Rattle.dk_budget.specs.Calls.{stopped_child}
use Rattle.dk_budget.specs.Calls.{changed_at as changed_lender}
use Rattle.dk_mutex.specs.declared.row.Lockable.{Lockable}
use Rattle.dk_mutex.specs.Rows.{freed, left_up_to}
use Rattle.dk_demand.specs.Cells.{Cells}
use Rattle.dk_demand.specs.Levels.{by_level}
use Rattle.dk_recount.specs.Tables.{Tables}
use Rattle.dk_recount.specs.Jobs.{MayClose, job_closed}

-- what is left of the ticks for which a level waits, where the thread of the other level holds nothing any more
abbrev pub unblocked : ThreadId → ℕ → List Lockable → ℕ → ℕ → ℕ
unblocked x level rows j n = if nat_lt j level then n - left_up_to x j rows else n

abbrev pub cells_freed : ThreadId → ℕ → List Lockable → Cells → Cells
cells_freed x level rows d = record d { blocking = by_level (unblocked x level rows) d.blocking }

-- the node of a row
abbrev pub node_on : ThreadRow → ℕ
node_on row = MAX_THREADS * row.id.process + row.slot

-- the thread of the row is closed, and has no wish and no mutex any more
abbrev pub shut : ThreadRow → Tables → Tables
shut row d =
    let next = job_closed (node_on row) row.level d in
    record next {
      demand = cells_freed row.id row.level d.mutexes next.demand;
      mutexes = map (freed row.id) d.mutexes;
    }

-- what the tables owe that
pub record MayShut (row : ThreadRow) (d : Tables) : Type 0 where
  pub closes : MayClose (node_on row) row.level d
  pub blocking : (j : ℕ) → j < row.level → left_up_to row.id j d.mutexes ≤ slice_index d.demand.blocking j

-- the child of the row is stopped
abbrev pub without_child : ThreadRow → Tables → Tables
without_child row d =
    let next = shut row d in
    record next {
      loans = changed_lender row.id.process (stopped_child d.demand.windows row.id.serial) d.loans;
      threads = changed_family (child_stopped row.id d.demand.windows) row.id.process d.threads;
    }

pub record MayStopChild (row : ThreadRow) (d : Tables) : Type 0 where
  pub shut : MayShut row d
  pub child : is_child row.id ≡ true
  pub runs : runs d.threads row.id ≡ true
  pub process : row.id.process < length d.loans.lenders

-- the entry is the exit or the fault of the child, or a delete of it by its main
pub record StopsChild (e : Entry) (x : ThreadId) : Type 0 where
  pub child : (x.serial == 0) ≡ false
  pub cause : ((is_of x e ≡ true) × (has_event is_end e ≡ true))
      ⊎ ((is_of (main_of x) e ≡ true) × (e.event ≡ Some (Event.Delete x.serial)))

-- the row of a child that hasn't been stopped
abbrev pub running_child : Table → ThreadId → Option ThreadRow
running_child table x = if is_child x && runs table x then find_row table x else None

abbrev pub child_of : ThreadId → ℕ → ThreadId
child_of x serial = record { process = x.process; serial = serial }

-- why a delete is refused, by the rows
abbrev pub delete_refusal_in : Table → ThreadId → ℕ → Option Refusal
delete_refusal_in table x serial =
    first_refusal
    ((not (x.serial == 0), Refusal.NotMain)
    ∷ (is_none (running_child table (child_of x serial)), Refusal.NoThread)
    ∷ [])

-- the tables without the child, if it runs
abbrev pub without_running : ThreadId → Tables → Tables
without_running x d = option_map_or (λ row. without_child row d) (running_child d.threads x) d

-- the thread has a row, and hasn't been stopped
pub record RunsByRow (table : Table) (x : ThreadId) : Type 0 where
  pub row : ThreadRow
  pub found : find_row table x ≡ Some row
  pub runs : runs table x ≡ true
