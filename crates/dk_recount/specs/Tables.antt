-- What contracts see of the dispatcher's tables, and the numbers of the configuration that these lack.
use Rattle.std.specs.Prelude.{ℕ, ◌≡◌, ◌+◌, ◌*◌, ◌≤◌, Bool, List, length}
use Rattle.std.specs.Option.{option_map_or}
use Rattle.dk_config.specs.declared.TheConstants.{MAX_LEVELS, MAX_PROCESSES, MAX_THREADS}
use Rattle.dk_trace.specs.declared.ThreadId.{ThreadId}
use Rattle.dk_trace.specs.Jobs.{Job}
use Rattle.dk_threads.specs.Table.{AreFamilies, Table, find_row}
use Rattle.dk_budget.specs.Book.{Book}
use Rattle.dk_mutex.specs.declared.row.Lockable.{Lockable}
use Rattle.dk_demand.specs.Cells.{Cells}
use Rattle.dk_slack.specs.Slack.{Slack}
use Rattle.dk_ready.specs.Roster.{Roster}

pub record Tables : Type 0 where
  pub threads : Table
  pub loans : Book
  pub mutexes : List Lockable
  -- the cells, and the windows at the present tick
  pub demand : Cells
  pub slack : Slack
  -- who sits on each node, and the ready queues
  pub jobs : Roster
  -- the kernel's own part of each level
  pub kernel : List Job
  -- the release work of each level
  pub releases : List ℕ
  -- which processes may ask for slack
  pub rights : List Bool

-- What holds of the tables of every dispatcher: they are of the same levels and processes.
pub record IsSound (d : Tables) : Type 0 where
  pub few : length d.demand.windows.periods ≤ MAX_LEVELS
  pub kernel : length d.kernel ≡ length d.demand.windows.periods
  pub releases : length d.releases ≡ length d.demand.windows.periods
  pub queues : length d.jobs.ready.lists ≡ length d.demand.windows.periods
  pub wishes : length d.slack.wishes ≡ length d.demand.windows.periods
  pub unclaimed : length d.slack.unclaimed ≡ length d.demand.windows.periods
  pub levels : d.threads.levels ≡ length d.demand.windows.periods
  pub periods : d.loans.periods ≡ d.demand.windows.periods
  pub processes : length d.threads.families ≤ MAX_PROCESSES
  pub lenders : length d.loans.lenders ≡ length d.threads.families
  pub rights : length d.rights ≡ length d.threads.families
  pub nodes : length d.jobs.seats ≡ MAX_THREADS * length d.threads.families
  pub askers : d.slack.nodes ≡ MAX_THREADS * length d.threads.families

-- the rows of each process stand by rising serial, and no two of them have one slot
abbrev pub HasFamilies : Tables → Type 0
HasFamilies d = AreFamilies d.threads.levels d.threads.families

-- the slot of a thread that has a row
abbrev pub slot_in : Table → ThreadId → ℕ
slot_in table x = option_map_or (λ row. row.slot) (find_row table x) 0

-- the node of a thread that has a row: its place among those of its process
abbrev pub node_in : Table → ThreadId → ℕ
node_in table x = MAX_THREADS * x.process + slot_in table x
