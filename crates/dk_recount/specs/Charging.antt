-- What a charge changes in the tables, and what it needs of them.
use Rattle.std.specs.Prelude.{ℕ, ◌≡◌, ◌+◌, ◌<◌, ◌≤◌, ◌^◌, false, length, map, All, IsSome, slice_get, slice_index, slice_set, get_or, Option, Some, None}
use Rattle.dk_config.specs.declared.TheConstants.{MAX_SPAN}
use Rattle.dk_trace.specs.declared.ThreadId.{ThreadId}
use Rattle.dk_trace.specs.declared.Choice.{Choice}
use Rattle.dk_trace.specs.JobSteps.{spent as spent_job}
use Rattle.dk_rail.specs.Queues.{holder, queue_at}
use Rattle.dk_mutex.specs.Rows.{spent as spent_row}
use Rattle.dk_mutex.specs.Table.{effective_level, holds_within}
use Rattle.dk_demand.specs.Cells.{Cells, dropped_cells, held_cells}
use Rattle.dk_slack.specs.Slack.{Slack}
use Rattle.dk_slack.specs.Wishes.{want, spent as spent_wish}
use Rattle.dk_slack.specs.Unclaimed.{raised, counted}
use Rattle.dk_ready.specs.Roster.{new_job, seat_at, left_on, spent_on}
use Rattle.dk_recount.specs.Tables.{Tables, node_in}
use Rattle.dk_recount.specs.Choosing.{kernel_left}

abbrev pub counts : Option ℕ → Slack → Slack
counts level s = record s { unclaimed = counted level s.unclaimed }

abbrev pub level_in : Tables → ThreadId → ℕ
level_in d x = (seat_at d.jobs (node_in d.threads x)).level

-- the level at which a thread runs
abbrev pub first_in : Tables → ThreadId → ℕ
first_in d x = effective_level x (level_in d x) d.mutexes

abbrev pub charged : Choice → Tables → Tables
charged (Choice.Kernel k) d = record d {
  kernel = slice_set d.kernel k (spent_job 0 (get_or d.kernel k (new_job 0)));
  demand = dropped_cells k 1 d.demand;
  slack = counts (Some k) d.slack;
}
charged (Choice.Budget x part) d = record d {
  jobs = spent_on (node_in d.threads x) d.jobs;
  mutexes = map (spent_row x) d.mutexes;
  demand = held_cells (level_in d x) (first_in d x) 1 0 (dropped_cells (level_in d x) 1 d.demand);
  slack = counts (Some (level_in d x)) d.slack;
}
charged (Choice.Slack x source part) d = record d {
  mutexes = map (spent_row x) d.mutexes;
  slack = counts None (record d.slack { wishes = spent_wish (node_in d.threads x) d.slack.wishes });
}
charged Choice.Idle d = record d { slack = counts None d.slack }

-- the level has work, and each level that counts it
pub record HasWork (level : ℕ) (d : Cells) : Type 0 where
  pub known : level < length d.windows.periods
  pub own : 0 < slice_index d.own level
  pub remaining : (j : ℕ) → level ≤ j → j < length d.windows.periods → 0 < slice_index d.remaining j

abbrev pub MayCount : Option ℕ → Slack → Type 0
MayCount level s = All (λ ticks. ticks + 1 < 2 ^ 32) (raised level s.unclaimed)

pub record MayKernel (k : ℕ) (d : Tables) : Type 0 where
  pub work : HasWork k d.demand
  pub left : 0 < kernel_left d k
  pub count : MayCount (Some k) d.slack

-- where the thread sits on the first node of a ready queue, that is its node
abbrev pub OwnsFront : ThreadId → Tables → Type 0
OwnsFront x d =
    (k node : ℕ) → k < length d.jobs.ready.lists → slice_get (queue_at d.jobs.ready.lists k) 0 ≡ Some node
    → (seat_at d.jobs node).thread ≡ x → node ≡ node_in d.threads x

pub record MayBudget (x : ThreadId) (d : Tables) : Type 0 where
  pub work : HasWork (level_in d x) d.demand
  pub node : node_in d.threads x < length d.jobs.seats
  pub left : 0 < left_on d.jobs (node_in d.threads x)
  pub queued : IsSome (holder d.jobs.ready.lists (node_in d.threads x))
  pub front : OwnsFront x d
  pub holds : holds_within x 0 d.mutexes ≡ false
  pub blocks : (j : ℕ) → first_in d x ≤ j → j < level_in d x → 1 ≤ slice_index d.demand.blocking j
  pub few : (j : ℕ) → first_in d x ≤ j → j < level_in d x → slice_index d.demand.blocking j ≤ MAX_SPAN
  pub count : MayCount (Some (level_in d x)) d.slack

pub record MaySlack (x : ThreadId) (d : Tables) : Type 0 where
  pub wish : 0 < want (node_in d.threads x) d.slack.wishes
  pub holds : holds_within x 0 d.mutexes ≡ false
  pub count : MayCount None d.slack

-- what the tables owe the charge of the choice
abbrev pub MayCharge : Choice → Tables → Type 0
MayCharge (Choice.Kernel k) d = MayKernel k d
MayCharge (Choice.Budget x part) d = MayBudget x d
MayCharge (Choice.Slack x source part) d = MaySlack x d
MayCharge Choice.Idle d = MayCount None d.slack
