-- What a create changes in the tables, and what it needs of them.
use Rattle.std.specs.Prelude.{ℕ, ◌≡◌, ◌+◌, ◌*◌, ◌<◌, ◌==◌, true, if◌then◌else◌, length, Option, Some, None, IsNone}
use Rattle.dk_config.specs.declared.TheConstants.{MAX_THREADS}
use Rattle.dk_trace.specs.declared.ThreadId.{ThreadId}
use Rattle.dk_trace.specs.declared.Refusal.{Refusal}
use Rattle.dk_windows.specs.Clock.{end_at}
use Rattle.dk_rail.specs.Queues.{holder}
use Rattle.dk_threads.specs.declared.row.ThreadRow.{ThreadRow}
use Rattle.dk_threads.specs.Table.{Table, begun, children_at, free_slot, has_room, has_serials, new_row, next_id, serials_at, stands}
use Rattle.dk_threads.specs.Table.{changed_at as changed_family}
use Rattle.dk_budget.specs.Calls.{lend_refusal, lent_to, new_loan}
use Rattle.dk_budget.specs.Calls.{changed_at as changed_lender}
use Rattle.dk_ready.specs.declared.seat.Seat.{Seat}
use Rattle.dk_ready.specs.Roster.{new_job, released}
use Rattle.dk_recount.specs.Tables.{Tables}

-- the node of the next child of the process
abbrev pub free_node : Table → ℕ → ℕ
free_node table p = MAX_THREADS * p + free_slot (children_at table p)

-- the row of the next child
abbrev pub child_row : ℕ → ℕ → Tables → ThreadRow
child_row p level d =
    new_row (next_id d.threads p) level (free_slot (children_at d.threads p)) (end_at d.demand.windows level)

-- where the next child of the process sits, with nothing to do before its start
abbrev pub new_seat : Table → ℕ → ℕ → Seat
new_seat table p level = record { thread = next_id table p; level = level; job = new_job 0 }

-- the process has one more child of that level and quota
abbrev pub with_child : ℕ → ℕ → ℕ → Tables → Tables
with_child p level quota d = record d {
  loans = changed_lender p (lent_to (new_loan d.demand.windows (serials_at d.threads p + 1) level quota)) d.loans;
  threads = changed_family (begun p level (end_at d.demand.windows level)) p d.threads;
  jobs = released (free_node d.threads p) (new_seat d.threads p level) d.jobs;
}

-- why a create is refused, by the tables
abbrev pub create_refusal_in : Tables → ThreadId → ℕ → ℕ → ℕ → ℕ → Option Refusal
create_refusal_in d x level quota entry instructions =
    if x.serial == 0 then lend_refusal d.loans x.process level quota entry instructions else Some Refusal.NotMain

-- what the tables owe a create of a main
pub record MayCreate (p level quota entry instructions : ℕ) (d : Tables) : Type 0 where
  pub process : p < length d.loans.lenders
  pub serials : has_serials d.threads p ≡ true
  pub stands : stands d.threads p ≡ true
  pub room : lend_refusal d.loans p level quota entry instructions ≡ None → has_room d.threads p ≡ true
  pub known : lend_refusal d.loans p level quota entry instructions ≡ None → level < d.threads.levels
  pub node : lend_refusal d.loans p level quota entry instructions ≡ None
      → free_node d.threads p < length d.jobs.seats
  pub free : lend_refusal d.loans p level quota entry instructions ≡ None
      → IsNone (holder d.jobs.ready.lists (free_node d.threads p))
