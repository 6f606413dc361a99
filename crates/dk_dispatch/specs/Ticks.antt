-- How a tick goes from stage to stage.
use Rattle.std.specs.Prelude.{ℕ, ◌≡◌, ◌⊎◌, ◌+◌, ◌<◌, ◌≤◌, true, List, length, Some}
use Rattle.dk_config.specs.Configuration.{Configuration}
use Rattle.dk_config.specs.Windows.{window_end}
use Rattle.dk_trace.specs.declared.Phase.{Phase}
use Rattle.dk_trace.specs.declared.ThreadId.{ThreadId}
use Rattle.dk_trace.specs.declared.Source.{Source}
use Rattle.dk_trace.specs.declared.Work.{Work}
use Rattle.dk_trace.specs.declared.Choice.{Choice}
use Rattle.dk_trace.specs.declared.Entry.{Entry}
use Rattle.dk_trace.specs.Entries.{thread_of}
use Rattle.dk_trace.specs.Members.{Has}
use Rattle.dk_trace.specs.Threads.{Thread, threads}
use Rattle.dk_trace.specs.Jobs.{job}
use Rattle.dk_trace.specs.JobSteps.{HasBody}
use Rattle.dk_trace.specs.Holds.{held_by, innermost_left}
use Rattle.dk_trace.specs.Slack.{want}
use Rattle.dk_trace.specs.Audit.{Follows, label_of}
use Rattle.dk_threads.specs.Recount.{has_row}
use Rattle.dk_recount.specs.Events.{IsUntold}
use Rattle.dk_past.specs.Past.{Past, Charged, Booked, Closed, choice_at, later}
use Rattle.dk_dispatch.specs.declared.tables.leading.Lead.{Lead}
use Rattle.dk_dispatch.specs.declared.tables.lending.Borrower.{Borrower}
use Rattle.dk_dispatch.specs.declared.tables.running.Runner.{Runner}
use Rattle.dk_dispatch.specs.Standing.{Dispatched, HasSlot, slots}

-- the entry is the open tick's and follows the rules; it is booked, or has no event that the tables are told of
pub record IsWhole (e : Entry) (p : Past) : Type 0 where
  pub follows : Follows p.config p.entries e
  pub told : (p.tick ≡ Booked e) ⊎ ((p.tick ≡ Charged) × IsUntold e.event)

-- the clock has moved on
pub record IsShut (p : Past) : Type 0 where
  pub entry : Entry
  pub closed : p.tick ≡ Closed entry

-- the thread computes in the next tick, the slot is its own, and it may hold the mutex that it locked last for so many
-- ticks more
pub record Leads (lead : Lead) (d : Dispatched) : Type 0 where
  pub chosen : Choice.Budget lead.thread Phase.Body ≡ choice_at d.past
  pub seat : HasSlot (slots d) lead.thread lead.slot
  pub left : lead.left ≡ innermost_left d.past.config (held_by lead.thread d.past.entries)

-- each of so many ticks goes to the choice, and whoever it names holds no mutex
pub record Goes (choice : Choice) (n : ℕ) (p : Past) : Type 0 where
  pub chosen : (i : ℕ) → i < n → choice ≡ choice_at (later choice i p)
  pub free : (i : ℕ) (x : ThreadId) → i < n → thread_of (label_of choice Work.Run) ≡ Some x
      → innermost_left p.config (held_by x (later choice i p).entries) ≡ 0

-- the thread has a row
pub record HasRow (c : Configuration) (past : List Entry) (x : ThreadId) : Type 0 where
  pub row : Thread
  pub among : Has (threads c past) row
  pub id : row.id ≡ x
  pub there : has_row c (length past) row ≡ true

-- The thread, which has a row, computes in each of so many ticks, and has something left of its share after them. They
-- are over before a window begins.
pub record MayRun (x : ThreadId) (n : ℕ) (p : Past) : Type 0 where
  pub goes : Goes (Choice.Budget x Phase.Body) n p
  pub has : HasRow p.config p.entries x
  pub body : HasBody p.config.costs.switch n (job p.config (length p.entries) p.entries has.row)
  pub within : length p.entries + n < window_end p.config 0 (length p.entries)

-- the thread may run for so many ticks, and for any fewer; the slot is its own
pub record Runs (runner : Runner) (d : Dispatched) : Type 0 where
  pub may : (n : ℕ) → n ≤ runner.ticks → MayRun runner.thread n d.past
  pub seat : HasSlot (slots d) runner.thread runner.slot

-- The thread, which has a row, has each of so many ticks as slack from the source, past its switch in, and asks for
-- more after them. They are over before a window begins.
pub record MayLend (x : ThreadId) (source : Source) (n : ℕ) (p : Past) : Type 0 where
  pub goes : Goes (Choice.Slack x source Phase.Body) n p
  pub has : HasRow p.config p.entries x
  pub wish : n < want p.config (length p.entries) p.entries has.row
  pub within : length p.entries + n < window_end p.config 0 (length p.entries)

-- the thread may have so many ticks, and any fewer; the slot is its own
pub record Borrows (borrower : Borrower) (d : Dispatched) : Type 0 where
  pub may : (n : ℕ) → n ≤ borrower.ticks → MayLend borrower.thread borrower.source n d.past
  pub seat : HasSlot (slots d) borrower.thread borrower.slot
