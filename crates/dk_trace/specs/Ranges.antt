-- The levels and processes that an entry names are there, and its numbers fit 32 bits.
use Rattle.std.specs.Prelude.{ℕ, ◌<◌, ◌^◌, length, Option, Some, None}
use Rattle.dk_config.specs.Configuration.{Configuration}
use Rattle.dk_config.specs.declared.TheConstants.{MAX_MUTEXES}
use Rattle.dk_trace.specs.declared.ThreadId.{ThreadId}
use Rattle.dk_trace.specs.declared.Source.{Source}
use Rattle.dk_trace.specs.declared.Work.{Work}
use Rattle.dk_trace.specs.declared.Label.{Label}
use Rattle.dk_trace.specs.declared.Event.{Event}
use Rattle.dk_trace.specs.declared.Entry.{Entry}
use Rattle.dk_trace.specs.Audit.{work_of}

-- how many levels and processes there are
pub record Size : Type 0 where
  pub levels : ℕ
  pub processes : ℕ

-- those of a configuration
abbrev pub size_of : Configuration → Size
size_of c = record { levels = length c.levels; processes = length c.processes }

abbrev pub HasThread : Size → ThreadId → Type 0
HasThread s x = (x.process < s.processes) × (x.serial < 2 ^ 32)

abbrev pub HasSource : Size → Source → Type 0
HasSource s Source.Timeline = Unit {0}
HasSource s (Source.Reclaimed j) = j < s.levels

abbrev pub HasLabel : Size → Label → Type 0
HasLabel s (Label.Kernel j) = j < s.levels
HasLabel s (Label.In x) = HasThread s x
HasLabel s (Label.Run x) = HasThread s x
HasLabel s (Label.Call x) = HasThread s x
HasLabel s (Label.Out x) = HasThread s x
HasLabel s (Label.Slack x source work) = HasThread s x × HasSource s source
HasLabel s Label.Idle = Unit {0}

-- a thread executes an instruction or a call
abbrev pub IsExecuting : Work → Type 0
IsExecuting Work.In = ⊥
IsExecuting _ = Unit {0}

-- a mutex is one of at most 16
abbrev pub HasEvent : Size → Event → Type 0
HasEvent s (Event.Create serial level quota) = (serial < 2 ^ 32) × (level < s.levels) × (quota < 2 ^ 32)
HasEvent s (Event.Delete serial) = serial < 2 ^ 32
HasEvent s (Event.Lock m) = m < MAX_MUTEXES
HasEvent s (Event.Unlock m) = m < MAX_MUTEXES
HasEvent s (Event.Slack amount) = amount < 2 ^ 32
HasEvent s (Event.Put value) = value < 2 ^ 32
HasEvent s Event.Wait = Unit {0}
HasEvent s Event.Exit = Unit {0}
HasEvent s (Event.Fault kind) = Unit {0}
HasEvent s (Event.Refused refusal) = Unit {0}

-- an event is of a thread that executes
abbrev pub HasOwnEvent : Size → Label → Option Event → Type 0
HasOwnEvent s label None = Unit {0}
HasOwnEvent s label (Some event) = IsExecuting (work_of label) × HasEvent s event

pub record HasEntry (s : Size) (e : Entry) : Type 0 where
  pub label : HasLabel s e.label
  pub event : HasOwnEvent s e.label e.event
