-- By the tables: who has the next tick, or the next ticks, where nobody has to be searched for.
use Rattle.std.specs.Prelude.{ℕ, ◌≡◌, ◌≤◌, List}
use Rattle.dk_config.specs.Configuration.{Configuration}
use Rattle.dk_trace.specs.declared.Phase.{Phase}
use Rattle.dk_trace.specs.declared.Choice.{Choice}
use Rattle.dk_trace.specs.declared.Entry.{Entry}
use Rattle.dk_trace.specs.Holds.{held_by, innermost_left}
use Rattle.dk_trace.specs.Choices.{chosen as past_choice}
use Rattle.dk_recount.specs.Tables.{Tables}
use Rattle.dk_recount.specs.Recount.{IsReady}
use Rattle.dk_recount.specs.Facing.{slots}
use Rattle.dk_recount.specs.Stretching.{MayLend, MayRun}
use Rattle.dk_dispatch.specs.Standing.{HasSlot}
use Rattle.dk_dispatch.specs.declared.tables.leading.Lead.{Lead}
use Rattle.dk_dispatch.specs.declared.tables.lending.Borrower.{Borrower}
use Rattle.dk_dispatch.specs.declared.tables.running.Runner.{Runner}

-- By every past of which the tables are the recount the thread computes in the next tick, the slot is its own, and
-- it may hold the mutex that it locked last for so many ticks more.
pub record Leads (lead : Lead) (d : Tables) : Type 0 where
  pub chosen : (c : Configuration) (past : List Entry) → IsReady c past d
      → Choice.Budget lead.thread Phase.Body ≡ past_choice c past
  pub seat : (c : Configuration) (past : List Entry) → IsReady c past d → HasSlot (slots d) lead.thread lead.slot
  pub left : (c : Configuration) (past : List Entry) → IsReady c past d
      → lead.left ≡ innermost_left c (held_by lead.thread past)

-- The thread computes in so many ticks from now on, and in any fewer, before a window begins. The slot is its own.
pub record Runs (runner : Runner) (d : Tables) : Type 0 where
  pub may : (n : ℕ) → n ≤ runner.ticks → MayRun runner.thread n d
  pub seat : HasSlot (slots d) runner.thread runner.slot

-- The thread has so many ticks of slack from now on, and any fewer, before a window begins. The slot is its own.
pub record Borrows (borrower : Borrower) (d : Tables) : Type 0 where
  pub may : (n : ℕ) → n ≤ borrower.ticks → MayLend borrower.thread borrower.source n d
  pub seat : HasSlot (slots d) borrower.thread borrower.slot
