-- A stretch: ticks one after the other that all go to one choice, and in which nothing else happens.
use Rattle.std.specs.Prelude.{ℕ, zero, suc, ◌≡◌, ◌+◌, ◌<◌, ◌≤◌, ◌^◌, List, ◌∷◌, length, map, slice_index, All, Option, Some, None}
use Rattle.dk_config.specs.declared.TheConstants.{MAX_TICKS}
use Rattle.dk_config.specs.Configuration.{Configuration}
use Rattle.dk_trace.specs.declared.ThreadId.{ThreadId}
use Rattle.dk_trace.specs.declared.Phase.{Phase}
use Rattle.dk_trace.specs.declared.Source.{Source}
use Rattle.dk_trace.specs.declared.Choice.{Choice}
use Rattle.dk_trace.specs.declared.Work.{Work}
use Rattle.dk_trace.specs.declared.Entry.{Entry}
use Rattle.dk_trace.specs.Entries.{quiet, thread_of}
use Rattle.dk_trace.specs.Holds.{held_by, innermost_left}
use Rattle.dk_trace.specs.Choices.{chosen as past_choice}
use Rattle.dk_trace.specs.Audit.{Audited, label_of}
use Rattle.dk_windows.specs.Clock.{end_at, passed}
use Rattle.dk_trace.specs.JobSteps.{HasBody}
use Rattle.dk_mutex.specs.Rows.{spent as spent_row}
use Rattle.dk_mutex.specs.Table.{hold_left}
use Rattle.dk_demand.specs.Cells.{Cells, dropped_cells}
use Rattle.dk_slack.specs.Slack.{Slack}
use Rattle.dk_slack.specs.Wishes.{want, spent_for as spent_wish_for}
use Rattle.dk_slack.specs.Unclaimed.{counted_for, raised}
use Rattle.dk_ready.specs.Roster.{seat_at, spent_for}
use Rattle.dk_recount.specs.Tables.{Tables, node_in}
use Rattle.dk_recount.specs.Recount.{IsReady}
use Rattle.dk_recount.specs.Charging.{first_in, level_in}
use Rattle.dk_recount.specs.Choosing.{HasNoWish, HasNoWork, choice_of}

-- Every past of the tables makes the choice, and whoever it names holds nothing. Once its tick is booked without an event
-- and the next one is open, they are the next tables.
pub record IsPassed (choice : Choice) (d next : Tables) : Type 0 where
  pub rows : next.threads ≡ d.threads
  pub chosen : (c : Configuration) (past : List Entry) → IsReady c past d → choice ≡ past_choice c past
  pub free : (c : Configuration) (past : List Entry) (x : ThreadId) → IsReady c past d
      → thread_of (label_of choice Work.Run) ≡ Some x → innermost_left c (held_by x past) ≡ 0
  pub ready : (c : Configuration) (past : List Entry) → IsReady c past d → length past < MAX_TICKS
      → Audited c (quiet (label_of choice Work.Run) ∷ past) → IsReady c (quiet (label_of choice Work.Run) ∷ past) next

-- so many ticks of the choice lead from the tables to the last ones
abbrev pub Passes : Choice → ℕ → Tables → Tables → Type 0
Passes choice zero d last = d ≡ last
Passes choice (suc n) d last = (before : Tables) × Passes choice n d before × IsPassed choice before last

-- so many ticks later it is still before the end of the fastest level's window
abbrev pub EndsAfter : ℕ → Tables → Type 0
EndsAfter n d = d.demand.windows.tick + n < end_at d.demand.windows 0

-- Nobody's ticks.

-- nobody has work, and nobody asks for slack
pub record Rests (d : Tables) : Type 0 where
  pub work : HasNoWork d (length d.kernel)
  pub wish : HasNoWish d (length d.kernel)

abbrev pub counts_for : ℕ → Option ℕ → Slack → Slack
counts_for n level s = record s { unclaimed = counted_for n level s.unclaimed }

abbrev pub MayCountFor : ℕ → Option ℕ → Slack → Type 0
MayCountFor n level s = All (λ ticks. ticks + n < 2 ^ 32) (raised level s.unclaimed)

-- after so many ticks of nobody
abbrev pub rested : ℕ → Tables → Tables
rested n d = record d {
  demand = record d.demand { windows = passed n d.demand.windows };
  slack = counts_for n None d.slack;
}

-- there is a past of which the tables are the recount, that has room for so many ticks
pub record HasRoomFor (n : ℕ) (d : Tables) : Type 0 where
  pub config : Configuration
  pub past : List Entry
  pub stands : IsReady config past d
  pub room : length past + n ≤ MAX_TICKS

-- A thread's ticks.

-- after so many ticks of the thread's body, which holds nothing
abbrev pub computed : ThreadId → ℕ → Tables → Tables
computed x n d = record d {
  jobs = spent_for (node_in d.threads x) n d.jobs;
  demand = record (dropped_cells (level_in d x) n d.demand) { windows = passed n d.demand.windows };
  slack = counts_for n (Some (level_in d x)) d.slack;
}

-- The thread computes for so many ticks, after which it has something left. It holds nothing, so it runs at its own
-- level, and the tables choose it as long.
pub record Computes (x : ThreadId) (n : ℕ) (d : Tables) : Type 0 where
  pub node : node_in d.threads x < length d.jobs.seats
  pub body : HasBody d.jobs.switch n (seat_at d.jobs (node_in d.threads x)).job
  pub free : hold_left x d.mutexes ≡ 0
  pub holds : map (spent_row x) d.mutexes ≡ d.mutexes
  pub runs : first_in d x ≡ level_in d x
  pub chosen : (i : ℕ) → i < n → choice_of (computed x i d) ≡ Choice.Budget x Phase.Body

-- the level has so much work, and each level that counts it
pub record HasWorkFor (n level : ℕ) (d : Cells) : Type 0 where
  pub known : level < length d.windows.periods
  pub own : n ≤ slice_index d.own level
  pub remaining : (j : ℕ) → level ≤ j → j < length d.windows.periods → n ≤ slice_index d.remaining j

-- what the tables owe so many ticks of the thread
pub record MayComputeFor (x : ThreadId) (n : ℕ) (d : Tables) : Type 0 where
  pub work : HasWorkFor n (level_in d x) d.demand
  pub count : MayCountFor n (Some (level_in d x)) d.slack

-- so many ticks may go by that the thread computes in, before a window begins
pub record MayRun (x : ThreadId) (n : ℕ) (d : Tables) : Type 0 where
  pub room : HasRoomFor n d
  pub computes : Computes x n d
  pub within : EndsAfter n d

-- A thread's ticks of slack.

-- after so many of them, where its switch in is over and it holds nothing
abbrev pub lent : ThreadId → ℕ → Tables → Tables
lent x n d = record d {
  demand = record d.demand { windows = passed n d.demand.windows };
  slack = record d.slack {
    wishes = spent_wish_for (node_in d.threads x) n d.slack.wishes;
    unclaimed = counted_for n None d.slack.unclaimed;
  };
}

-- The thread has so many ticks of slack, after which it asks for more. It holds nothing, and the tables choose it as
-- long.
pub record Lends (x : ThreadId) (source : Source) (n : ℕ) (d : Tables) : Type 0 where
  pub wish : n < want (node_in d.threads x) d.slack.wishes
  pub free : hold_left x d.mutexes ≡ 0
  pub holds : map (spent_row x) d.mutexes ≡ d.mutexes
  pub chosen : (i : ℕ) → i < n → choice_of (lent x i d) ≡ Choice.Slack x source Phase.Body

-- so many ticks may go by that the thread has of slack, before a window begins
pub record MayLend (x : ThreadId) (source : Source) (n : ℕ) (d : Tables) : Type 0 where
  pub room : HasRoomFor n d
  pub lends : Lends x source n d
  pub within : EndsAfter n d
