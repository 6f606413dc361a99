-- The table of a ledger's groups: which fields a row has, and its text by the crate `csv`.
use Rattle.std.specs.Prelude.{ℕ, ◌++◌, ◌∷◌, [], List, decimal, codes, flat_map, slice_get, Option, Some, None}
use Rattle.std.specs.Option.{option_map_or}
use Rattle.csv.specs.Writing.{default_writer, row_text}
use Rattle.dk_trace.specs.declared.ThreadId.{ThreadId}
use Rattle.dk_trace.specs.declared.Source.{Source}
use Rattle.dk_trace.specs.declared.Label.{Label}
use Rattle.dk_trace.specs.declared.Event.{Event}
use Rattle.dk_trace.specs.declared.Entry.{Entry}
use Rattle.dk_ledger.specs.declared.line.LedgerLine.{LedgerLine}
use Rattle.dk_ledger.specs.Heading.{Heading, name_of}
use Rattle.dk_ledger.specs.LineText.{work_text, fault_text}
use Rattle.dk_groups.specs.Groups.{groups}
use Rattle.dk_trace.specs.declared.says.Arguments.{Arguments}
use Rattle.dk_trace.specs.Says.{arguments_of, word_of}
use Rattle.dk_entry_words.specs.Parted.{behind}
use Rattle.dk_overrun_spans.specs.declared.overrun.Overrun.{Overrun}
use Rattle.dk_overrun_spans.specs.Marks.{overran_in}
use Rattle.dk_overrun_spans.specs.Overruns.{overruns}

-- the names of the columns
abbrev pub columns : List (List ℕ)
columns = codes "start" ∷ codes "count" ∷ codes "kind" ∷ codes "process" ∷ codes "serial" ∷ codes "level" ∷ codes "slack"
    ∷ codes "from" ∷ codes "event" ∷ codes "arg1" ∷ codes "arg2" ∷ codes "arg3" ∷ codes "overran" ∷ []

abbrev pub kind_text : Label → List ℕ
kind_text (Label.Kernel j) = codes "kernel"
kind_text (Label.In x) = codes "in"
kind_text (Label.Run x) = codes "run"
kind_text (Label.Call x) = codes "call"
kind_text (Label.Out x) = codes "out"
kind_text (Label.Slack x source work) = work_text work
kind_text Label.Idle = codes "idle"

-- the level on the process's line of the header
abbrev pub level_of : Heading → ℕ → ℕ
level_of h p = option_map_or (λ line. line.level) (slice_get h.processes p) 0

-- the process of the thread, its serial, and the process's level
abbrev pub thread_fields : Heading → ThreadId → List (List ℕ)
thread_fields h x = name_of h x.process ∷ decimal x.serial ∷ decimal (level_of h x.process) ∷ []

-- process, serial, level
abbrev pub owner_fields : Heading → Label → List (List ℕ)
owner_fields h (Label.Kernel j) = [] ∷ [] ∷ decimal j ∷ []
owner_fields h (Label.In x) = thread_fields h x
owner_fields h (Label.Run x) = thread_fields h x
owner_fields h (Label.Call x) = thread_fields h x
owner_fields h (Label.Out x) = thread_fields h x
owner_fields h (Label.Slack x source work) = thread_fields h x
owner_fields h Label.Idle = [] ∷ [] ∷ [] ∷ []

-- slack, from
abbrev pub source_fields : Label → List (List ℕ)
source_fields (Label.Slack x Source.Timeline work) = codes "timeline" ∷ [] ∷ []
source_fields (Label.Slack x (Source.Reclaimed j) work) = codes "reclaimed" ∷ decimal j ∷ []
source_fields _ = [] ∷ [] ∷ []

-- the word of an event and its arguments, each in a field of its own but the kind of a fault
abbrev pub padded : List ℕ → Arguments → List (List ℕ)
padded word Arguments.Nothing = word ∷ [] ∷ [] ∷ [] ∷ []
padded word (Arguments.Kind kind) = (word ++ codes " " ++ fault_text kind) ∷ [] ∷ [] ∷ [] ∷ []
padded word (Arguments.One n) = word ∷ decimal n ∷ [] ∷ [] ∷ []
padded word (Arguments.Three a b c) = word ∷ decimal a ∷ decimal b ∷ decimal c ∷ []

-- event, arg1, arg2, arg3
abbrev pub event_fields : Option Event → List (List ℕ)
event_fields None = [] ∷ [] ∷ [] ∷ [] ∷ []
event_fields (Some e) = padded (word_of e) (arguments_of e)

-- a row, by its columns, where so many windows were overrun in it
abbrev pub fields : Heading → ℕ → LedgerLine → List (List ℕ)
fields h n g = decimal g.start ∷ decimal g.count ∷ kind_text g.label
    ∷ (owner_fields h g.label ++ (source_fields g.label ++ (event_fields g.event ++ decimal n ∷ [])))

-- how many of the group's ticks are the last of a thread's budget in a window that it overran
abbrev pub overran_at : List Overrun → LedgerLine → ℕ
overran_at os g = overran_in os g.start g.count

-- the row of a group, where these windows were overrun
abbrev pub group_fields : Heading → List Overrun → LedgerLine → List (List ℕ)
group_fields h os g = fields h (overran_at os g) g

-- the text of a record as `csv` writes it
abbrev pub record_text : List (List ℕ) → List ℕ
record_text fs = row_text default_writer fs

abbrev pub rows_text : Heading → List Overrun → List LedgerLine → List ℕ
rows_text h os gs = flat_map (λ g. record_text (group_fields h os g)) gs

-- the table of the groups of a range
abbrev pub csv_text : ℕ → ℕ → Heading → List Entry → List ℕ
csv_text from to h es = record_text columns ++ rows_text h (overruns h es) (groups from to es)

-- fields behind others, where none calls for quotes
abbrev pub behind_comma : List (List ℕ) → List ℕ
behind_comma fs = behind 44 fs

-- a row without its line feed, where no field calls for quotes
abbrev pub plain_row : Heading → ℕ → LedgerLine → List ℕ
plain_row h n g = decimal g.start ++ behind_comma (decimal g.count ∷ kind_text g.label
    ∷ (owner_fields h g.label ++ (source_fields g.label ++ (event_fields g.event ++ decimal n ∷ []))))
