-- The text of a ledger's lines.
use Rattle.std.specs.Prelude.{ℕ, ◌<◌, ◌++◌, ◌∷◌, [], List, length, flat_map, decimal, codes, Option, Some, None, IfSome}
use Rattle.dk_isa.specs.declared.FaultKind.{FaultKind}
use Rattle.dk_trace.specs.declared.ThreadId.{ThreadId}
use Rattle.dk_trace.specs.declared.Source.{Source}
use Rattle.dk_trace.specs.declared.Work.{Work}
use Rattle.dk_trace.specs.declared.Label.{Label}
use Rattle.dk_trace.specs.declared.Event.{Event}
use Rattle.dk_trace.specs.Entries.{thread_of}
use Rattle.dk_trace.specs.declared.says.Arguments.{Arguments}
use Rattle.dk_trace.specs.Says.{arguments_of, word_of}
use Rattle.dk_ledger.specs.Heading.{Heading, name_of, ended}
use Rattle.dk_ledger.specs.Parted.{parted}
use Rattle.dk_ledger.specs.declared.line.LedgerLine.{LedgerLine}

-- the process of the label's thread, where it has one, is on a line of the header
abbrev pub IsNamed : Heading → Label → Type 0
IsNamed h label = IfSome (thread_of label) (λ x. x.process < length h.processes)

abbrev pub thread_text : Heading → ThreadId → List ℕ
thread_text h x = name_of h x.process ++ codes "." ++ decimal x.serial

abbrev pub source_text : Source → List ℕ
source_text Source.Timeline = codes "timeline"
source_text (Source.Reclaimed j) = codes "reclaimed " ++ decimal j

abbrev pub work_text : Work → List ℕ
work_text Work.In = codes "in"
work_text Work.Run = codes "run"
work_text Work.Call = codes "call"

abbrev pub slack_text : Heading → ThreadId → Source → Work → List ℕ
slack_text h x source work =
    codes "slack " ++ source_text source ++ codes " " ++ work_text work ++ codes " " ++ thread_text h x

abbrev pub label_text : Heading → Label → List ℕ
label_text h (Label.Kernel j) = codes "kernel " ++ decimal j
label_text h (Label.In x) = codes "in " ++ thread_text h x
label_text h (Label.Run x) = codes "run " ++ thread_text h x
label_text h (Label.Call x) = codes "call " ++ thread_text h x
label_text h (Label.Out x) = codes "out " ++ thread_text h x
label_text h (Label.Slack x source work) = slack_text h x source work
label_text h Label.Idle = codes "idle"

abbrev pub fault_text : FaultKind → List ℕ
fault_text FaultKind.Fetch = codes "fetch"
fault_text FaultKind.Decode = codes "decode"
fault_text FaultKind.Memory = codes "memory"
fault_text FaultKind.Divide = codes "divide"
fault_text FaultKind.Call = codes "call"
fault_text FaultKind.Hold = codes "hold"

-- the words of what stands behind the word of an event
abbrev pub argument_words : Arguments → List (List ℕ)
argument_words Arguments.Nothing = []
argument_words (Arguments.Kind kind) = fault_text kind ∷ []
argument_words (Arguments.One n) = decimal n ∷ []
argument_words (Arguments.Three a b c) = decimal a ∷ decimal b ∷ decimal c ∷ []

abbrev pub event_text : Event → List ℕ
event_text event = parted 32 (word_of event ∷ argument_words (arguments_of event))

-- the event, parted from the label by a blank
abbrev pub event_part : Option Event → List ℕ
event_part None = []
event_part (Some event) = codes " " ++ event_text event

abbrev pub line_body : Heading → LedgerLine → List ℕ
line_body h l =
    decimal l.start ++ codes " " ++ decimal l.count ++ codes " " ++ label_text h l.label ++ event_part l.event

abbrev pub ledger_line : Heading → LedgerLine → List ℕ
ledger_line h l = ended (line_body h l)

abbrev pub lines_text : Heading → List LedgerLine → List ℕ
lines_text h ls = flat_map (ledger_line h) ls
