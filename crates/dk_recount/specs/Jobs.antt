-- A thread's job is closed for the rest of its window: what that changes in the tables, and what it needs of them.
use Rattle.std.specs.Prelude.{ℕ, ◌≤◌, ◌<◌, length, IsSome, slice_index}
use Rattle.dk_rail.specs.Queues.{holder}
use Rattle.dk_demand.specs.Cells.{dropped_cells}
use Rattle.dk_slack.specs.Wishes.{dropped}
use Rattle.dk_ready.specs.Roster.{left_on, closed_on, dropped_on}
use Rattle.dk_recount.specs.Tables.{Tables}

-- the job of the node is closed, its level has less to do by what it gives up, and its wish is gone
abbrev pub job_closed : ℕ → ℕ → Tables → Tables
job_closed node level d = record d {
  jobs = closed_on node d.jobs;
  demand = dropped_cells level (dropped_on node d.jobs) d.demand;
  slack = record d.slack { wishes = dropped node d.slack.wishes };
}

-- what the tables owe that
pub record MayClose (node level : ℕ) (d : Tables) : Type 0 where
  pub inside : node < length d.jobs.seats
  pub queued : 0 < left_on d.jobs node → IsSome (holder d.jobs.ready.lists node)
  pub known : level < length d.demand.windows.periods
  pub own : dropped_on node d.jobs ≤ slice_index d.demand.own level
  pub remaining : (j : ℕ) → level ≤ j → j < length d.demand.windows.periods
      → dropped_on node d.jobs ≤ slice_index d.demand.remaining j
