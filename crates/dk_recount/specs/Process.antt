-- What the stop of a whole process changes in the tables, and what it needs of them.
use Rattle.std.specs.Prelude.{ℕ, ◌≡◌, ◌+◌, ◌-◌, ◌*◌, ◌<◌, ◌≤◌, ◌==◌, true, false, List, [], ◌∷◌, length, filter, slice_get, slice_index, if◌then◌else◌}
use Rattle.std.specs.Option.{option_map_or}
use Rattle.dk_config.specs.declared.TheConstants.{MAX_CHILDREN}
use Rattle.dk_trace.specs.declared.ThreadId.{ThreadId}
use Rattle.dk_trace.specs.declared.Entry.{Entry}
use Rattle.dk_trace.specs.Entries.{is_of, is_end, has_event}
use Rattle.dk_threads.specs.declared.row.ThreadRow.{ThreadRow}
use Rattle.dk_threads.specs.Table.{Table, all_stopped, children_at, find_row, is_running, stands}
use Rattle.dk_threads.specs.Table.{changed_at as changed_family}
use Rattle.dk_budget.specs.Book.{Book}
use Rattle.dk_budget.specs.Calls.{stopped_process}
use Rattle.dk_budget.specs.Calls.{changed_at as changed_lender}
use Rattle.dk_budget.specs.Shares.{future_shares}
use Rattle.dk_demand.specs.Cells.{Cells}
use Rattle.dk_demand.specs.Levels.{by_level}
use Rattle.dk_recount.specs.Tables.{Tables}
use Rattle.dk_recount.specs.Stopping.{MayShut, MayStopChild, shut, without_child}

-- one thread after the other
abbrev pub shut_all : List ThreadRow → Tables → Tables
shut_all [] d = d
shut_all (row ∷ rows) d = shut_all rows (shut row d)

abbrev pub MayShutAll : List ThreadRow → Tables → Type 0
MayShutAll [] d = Unit {0}
MayShutAll (row ∷ rows) d = MayShut row d × MayShutAll rows (shut row d)

-- the children of the process that haven't been stopped
abbrev pub running_children : Table → ℕ → List ThreadRow
running_children table p = filter is_running (children_at table p)

-- the row at that place, if there is one that hasn't been stopped
abbrev pub running_at : List ThreadRow → ℕ → List ThreadRow
running_at rows index = option_map_or (λ row. if is_running row then row ∷ [] else []) (slice_get rows index) []

-- the levels need less by the shares to come of the process
abbrev pub less_to_come : Book → Cells → ℕ → ℕ → ℕ → ℕ
less_to_come b d p j n = n - future_shares b d.windows p j

abbrev pub cells_lost : Book → ℕ → Cells → Cells
cells_lost b p d = record d { remaining = by_level (less_to_come b d p) d.remaining }

-- the main of that row and its children are shut, and the process has no shares to come
abbrev pub without_shares : ThreadRow → Tables → Tables
without_shares main d =
    let next = shut_all (running_children d.threads main.id.process) (shut main d) in
    record next { demand = cells_lost d.loans main.id.process next.demand }

abbrev pub without_process : ThreadRow → Tables → Tables
without_process main d =
    let next = without_shares main d in
    record next {
      loans = changed_lender main.id.process (stopped_process d.demand.windows) d.loans;
      threads = changed_family (all_stopped d.demand.windows) main.id.process d.threads;
    }

-- what the tables owe that
pub record MayStopProcess (main : ThreadRow) (d : Tables) : Type 0 where
  pub process : main.id.process < length d.loans.lenders
  pub stands : stands d.threads main.id.process ≡ true
  pub few : length (children_at d.threads main.id.process) ≤ MAX_CHILDREN
  pub main_shut : MayShut main d
  pub children_shut : MayShutAll (running_children d.threads main.id.process) (shut main d)
  pub shares : (j : ℕ) → j < length d.demand.windows.periods
      → future_shares d.loans d.demand.windows main.id.process j
      ≤ slice_index (shut_all (running_children d.threads main.id.process) (shut main d)).demand.remaining j
  pub each : length (shut_all (running_children d.threads main.id.process) (shut main d)).demand.remaining
      ≡ length d.demand.windows.periods

-- the entry is the exit or the fault of the main
pub record StopsProcess (e : Entry) (x : ThreadId) : Type 0 where
  pub main : (x.serial == 0) ≡ true
  pub own : is_of x e ≡ true
  pub end : has_event is_end e ≡ true

-- the tables without the thread, and without its process where it is a main
abbrev pub without_thread : ThreadId → Tables → Tables
without_thread x d =
    option_map_or (λ row. if x.serial == 0 then without_process row d else without_child row d)
    (find_row d.threads x) d

-- the steps of that, at most
abbrev pub stop_steps : ThreadId → Tables → ℕ
stop_steps x d =
    if x.serial == 0
    then (5 + length d.kernel) * (1 + length (running_children d.threads x.process)) + length d.kernel
    else 5 + length d.kernel

-- what the tables owe that, where the row is the thread's
pub record MayStop (x : ThreadId) (row : ThreadRow) (d : Tables) : Type 0 where
  pub main : (x.serial == 0) ≡ true → MayStopProcess row d
  pub child : (x.serial == 0) ≡ false → MayStopChild row d
