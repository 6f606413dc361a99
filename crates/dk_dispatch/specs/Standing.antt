-- What contracts see of the dispatcher, and what its tables are to its past.
use Rattle.std.specs.Prelude.{ℕ, ◌≡◌, ◌≤◌, List, ◌∷◌, Some, option_map}
use Rattle.dk_config.specs.declared.TheConstants.{MAX_CHILDREN}
use Rattle.dk_config.specs.Configuration.{Configuration}
use Rattle.dk_trace.specs.declared.ThreadId.{ThreadId}
use Rattle.dk_trace.specs.declared.Label.{Label}
use Rattle.dk_trace.specs.declared.Entry.{Entry}
use Rattle.dk_trace.specs.Choices.{chosen}
use Rattle.dk_trace.specs.Audit.{Audited, Follows, HasChosenLabel}
use Rattle.dk_threads.specs.Table.{Table, find_row}
use Rattle.dk_recount.specs.Tables.{Tables}
use Rattle.dk_recount.specs.Recount.{IsReady, IsCharged, IsBooked, IsClosed}
use Rattle.dk_recount.specs.Facing.{Slots, HasOwn}
use Rattle.dk_past.specs.Past.{Past, Tick, Ready, Charged, Booked, Closed}

-- where the run stands, and the rows of the threads, whose slots the past doesn't tell
pub record Dispatched : Type 0 where
  pub past : Past
  pub threads : Table

-- the slot of each thread that has a row
abbrev pub slots : Dispatched → Slots
slots d x = option_map (λ row. row.slot) (find_row d.threads x)

-- the thread has a row, in this slot of its own
pub record HasSlot (has : Slots) (x : ThreadId) (s : ℕ) : Type 0 where
  pub at : has x ≡ Some s
  pub fits : s ≤ MAX_CHILDREN
  pub own : HasOwn has x s

-- The tables are the recount of the entries, at each stage of the tick. A charge is booked for whatever the chosen
-- thread does; an event is owed a recount where the tick's entry follows the rules.
abbrev pub StandsAt : Tick → Configuration → List Entry → Tables → Type 0
StandsAt Ready c past d = IsReady c past d
StandsAt Charged c past d = (label : Label) → HasChosenLabel (chosen c past) label → IsCharged c label past d
StandsAt (Booked e) c past d = Follows c past e → IsBooked c e past d
StandsAt (Closed e) c past d = IsClosed c e past d × Audited c (e ∷ past)

abbrev pub Stands : Past → Tables → Type 0
Stands p d = StandsAt p.tick p.config p.entries d

abbrev pub dispatched : Past → Tables → Dispatched
dispatched p d = record { past = p; threads = d.threads }
