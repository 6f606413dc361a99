-- What the kernel above needs of the calls: who is there, which slots the threads have, and the row that a create makes.
use Rattle.std.specs.Prelude.{ℕ, ◌≡◌, ◌⊎◌, ◌≤◌, true, List, ◌∷◌, length, Option, Some, None, option_map}
use Rattle.std.specs.Option.{option_map_or}
use Rattle.dk_config.specs.declared.TheConstants.{MAX_CHILDREN}
use Rattle.dk_config.specs.Configuration.{Configuration}
use Rattle.dk_config.specs.Windows.{window_end}
use Rattle.dk_trace.specs.declared.ThreadId.{ThreadId}
use Rattle.dk_trace.specs.declared.Label.{Label}
use Rattle.dk_trace.specs.declared.Work.{Work}
use Rattle.dk_trace.specs.declared.Event.{Event}
use Rattle.dk_trace.specs.declared.Refusal.{Refusal}
use Rattle.dk_trace.specs.declared.Entry.{Entry}
use Rattle.dk_trace.specs.Entries.{thread_of, quiet}
use Rattle.dk_trace.specs.Members.{Has}
use Rattle.dk_trace.specs.Threads.{Thread, threads}
use Rattle.dk_trace.specs.Choices.{chosen}
use Rattle.dk_trace.specs.Refusals.{create_refusal}
use Rattle.dk_trace.specs.Audit.{Follows, HasChosenLabel, next_serial, row_of, work_of}
use Rattle.dk_threads.specs.declared.row.State.{State}
use Rattle.dk_threads.specs.declared.row.ThreadRow.{ThreadRow}
use Rattle.dk_threads.specs.Table.{children_at, find_row, free_slot}
use Rattle.dk_threads.specs.Recount.{has_row}
use Rattle.dk_recount.specs.Tables.{Tables}
use Rattle.dk_recount.specs.Recount.{IsBooked, IsReady}
use Rattle.dk_recount.specs.Events.{IsCalling, with_event}

abbrev pub Slots : Type 0
Slots = ThreadId → Option ℕ

-- the slot of each thread that has a row
abbrev pub slots : Tables → ThreadId → Option ℕ
slots d x = option_map (λ row. row.slot) (find_row d.threads x)

-- rows keep their slots, and may leave
abbrev pub Keeps : Slots → Slots → Type 0
Keeps before after = (x : ThreadId) (s : ℕ) → after x ≡ Some s → before x ≡ Some s

-- no other thread of the process has the slot
abbrev pub HasOwn : Slots → ThreadId → ℕ → Type 0
HasOwn slots x s = (y : ThreadId) → slots y ≡ Some s → y.process ≡ x.process → y.serial ≡ x.serial

-- the slots of the threads after one came
pub record Adds (before after : Slots) (x : ThreadId) (s : ℕ) : Type 0 where
  pub at : after x ≡ Some s
  pub others : (y : ThreadId) (k : ℕ) → after y ≡ Some k
      → (before y ≡ Some k) ⊎ ((y.process ≡ x.process) × ((y.serial ≡ x.serial) × (k ≡ s)))

-- whoever is in a call is a thread of the past that has a row
pub record CallerIsThere (c : Configuration) (label : Label) (past : List Entry) (x : ThreadId) : Type 0 where
  pub row : Thread
  pub found : row_of c past x ≡ Some row
  pub among : Has (threads c (quiet label ∷ past)) row
  pub id : row.id ≡ x
  pub there : has_row c (length past) row ≡ true

abbrev pub CallersAreThere : Type 0
CallersAreThere =
    (c : Configuration) (label : Label) (past : List Entry) (d : Tables) (x : ThreadId)
    → IsCalling x c label past d → CallerIsThere c label past x

-- and so it is before the charge with whoever would be in a call
abbrev pub CallersHaveSlots : Type 0
CallersHaveSlots =
    (c : Configuration) (label : Label) (past : List Entry) (d : Tables) (x : ThreadId) → IsReady c past d
    → HasChosenLabel (chosen c past) label → thread_of label ≡ Some x → work_of label ≡ Work.Call
    → (s : ℕ) × (slots d x ≡ Some s)

-- the refusal of a create, by the past and the tick's entry without an event
abbrev pub create_refusal_of : Configuration → Label → List Entry → ThreadId → ℕ → ℕ → ℕ → ℕ
    → Option Refusal
create_refusal_of c label past x level quota entry instructions =
    option_map_or (λ row. create_refusal c (length past) (quiet label ∷ past) row level quota entry instructions)
    (row_of c past x) None

-- the new row is the next one of the process, in a slot of its own: the lowest that no child has; it waits for its start
pub record IsNewRow (x : ThreadId) (level : ℕ) (old new : Tables) (row : ThreadRow) : Type 0 where
  pub process : row.id.process ≡ x.process
  pub runs_at : row.level ≡ level
  pub lowest : row.slot ≡ free_slot (children_at old.threads x.process)
  pub waits : row.state ≡ State.Starting
  pub endless : row.end ≡ None
  pub fits : row.slot ≤ MAX_CHILDREN
  pub added : Adds (slots old) (slots new) row.id row.slot
  pub own : HasOwn (slots new) row.id row.slot

-- a create is done: the child has the next serial, and starts where the present window of its level ends
pub record Creates (x : ThreadId) (level quota entry instructions : ℕ) (old new : Tables) (row : ThreadRow)
    (c : Configuration) (label : Label) (past : List Entry) : Type 0 where
  pub serial : row.id.serial ≡ next_serial c (quiet label ∷ past) x.process
  pub start : row.start ≡ window_end c level (length past)
  pub met : create_refusal_of c label past x level quota entry instructions ≡ None
  pub booked : Follows c past (with_event label (Event.Create row.id.serial level quota))
      → IsBooked c (with_event label (Event.Create row.id.serial level quota)) past new
