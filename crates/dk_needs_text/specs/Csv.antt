-- The rows as a table.
use Rattle.std.specs.Prelude.{ℕ, ◌≡◌, false, List, [], ◌∷◌, ◌++◌, flat_map, slice_get, codes, decimal, if◌then◌else◌, Option, Some, None}
use Rattle.std.specs.Option.{option_map_or}
use Rattle.csv.specs.Writing.{default_writer, needs_quotes, row_text}
use Rattle.dk_needs.specs.declared.needs.Need.{Need}
use Rattle.dk_needs.specs.declared.needs.What.{What}
use Rattle.dk_needs_check.specs.declared.row.Answer.{Answer}
use Rattle.dk_needs_check.specs.declared.row.Audit.{Audit}
use Rattle.dk_needs_check.specs.declared.row.Bound.{Bound}
use Rattle.dk_needs_check.specs.declared.row.Measure.{Measure}
use Rattle.dk_needs_check.specs.declared.row.Repeating.{Repeating}
use Rattle.dk_needs_check.specs.declared.row.Row.{Row}
use Rattle.dk_needs_check.specs.declared.row.Waiting.{Waiting}
use Rattle.dk_needs_check.specs.Bounds.{is_met, verdict_of}
use Rattle.dk_needs_text.specs.Names.{name_at}
use Rattle.dk_needs_text.specs.Text.{reason_words, subject_of, verdict_word}

-- the names of the columns
abbrev pub columns : List (List ℕ)
columns = codes "verdict" ∷ codes "id" ∷ codes "subject" ∷ codes "measure" ∷ codes "number" ∷ codes "asked" ∷ codes "reason" ∷ []

abbrev pub measure_word : Measure → List ℕ
measure_word Measure.Done = codes "done"
measure_word Measure.Reaction = codes "reaction"
measure_word Measure.Age = codes "age"
measure_word Measure.BeginsJitter = codes "begins_jitter"
measure_word Measure.DoneJitter = codes "done_jitter"
measure_word Measure.ReactionJitter = codes "reaction_jitter"
measure_word Measure.Budget = codes "budget"
measure_word Measure.Hold = codes "hold"
measure_word Measure.Release = codes "release"
measure_word Measure.Growth = codes "growth"
measure_word Measure.Spare = codes "spare"
measure_word Measure.Slack = codes "slack"
measure_word Measure.SlackBy = codes "slack_by"
measure_word Measure.Overruns = codes "overruns"
measure_word Measure.Refused = codes "refused"
measure_word Measure.Faults = codes "faults"

abbrev pub measure_field : Answer → List ℕ
measure_field (Answer.Tested b) = measure_word b.measure
measure_field (Answer.IfKept b) = measure_word b.measure
measure_field Answer.NoRight = codes "slack"
measure_field (Answer.Audited a) = codes "audit"
measure_field (Answer.Waits w) = codes "waits"
measure_field (Answer.Repeats r) = codes "repeats"
measure_field (Answer.Open reason) = []

-- how many entries passed, or the tick of the first that breaks a rule
abbrev pub audit_number : Audit → ℕ
audit_number (Audit.Passed n) = n
audit_number (Audit.Label n) = n
audit_number (Audit.Event n) = n

abbrev pub audit_word : Audit → List ℕ
audit_word (Audit.Passed n) = codes "passed"
audit_word (Audit.Label n) = codes "label"
audit_word (Audit.Event n) = codes "event"

-- the tick at which the window without a wait begins
abbrev pub waiting_number : Waiting → Option ℕ
waiting_number (Waiting.NotFrom n) = Some n
waiting_number _ = None

-- the tick from which on the run repeats
abbrev pub repeating_number : Repeating → Option ℕ
repeating_number (Repeating.Every start every) = Some start
repeating_number _ = None

abbrev pub number_of : Answer → Option ℕ
number_of (Answer.Tested b) = b.number
number_of (Answer.IfKept b) = b.number
number_of Answer.NoRight = None
number_of (Answer.Audited a) = Some (audit_number a)
number_of (Answer.Waits w) = waiting_number w
number_of (Answer.Repeats r) = repeating_number r
number_of (Answer.Open reason) = None

abbrev pub asked_of : Answer → Option ℕ
asked_of (Answer.Tested b) = Some b.asked
asked_of (Answer.IfKept b) = Some b.asked
asked_of _ = None

-- why it isn't known whether a main waits in each of its windows
abbrev pub waiting_reason : Waiting → List ℕ
waiting_reason Waiting.Always = []
waiting_reason (Waiting.NotFrom n) = []
waiting_reason (Waiting.NotWithin n) = codes "not within " ++ decimal n
waiting_reason Waiting.ReadsTick = codes "reads the tick"
waiting_reason Waiting.HasThreads = codes "has threads"
waiting_reason Waiting.HasSlack = codes "has slack"

-- how long the cycle is, or why none is told
abbrev pub repeating_reason : Repeating → List ℕ
repeating_reason (Repeating.Every start every) = codes "every " ++ decimal every
repeating_reason (Repeating.NotWithin n) = codes "not within " ++ decimal n
repeating_reason (Repeating.ReadsTick p) = codes "reads the tick"

-- the process whose thread read the tick last, where that is told
abbrev pub repeating_subject : List (List ℕ) → Repeating → List ℕ
repeating_subject names (Repeating.ReadsTick p) = name_at names p
repeating_subject names _ = []

abbrev pub subject_field : List (List ℕ) → What → Answer → List ℕ
subject_field names what (Answer.Repeats r) = repeating_subject names r
subject_field names what _ = subject_of what

-- under which condition a bound is kept that would be
abbrev pub kept_reason : Bound → List ℕ
kept_reason b = if is_met b then (codes "if all keep to their slack") else []

abbrev pub reason_field : Answer → List ℕ
reason_field (Answer.Tested b) = []
reason_field (Answer.IfKept b) = kept_reason b
reason_field Answer.NoRight = codes "may not ask"
reason_field (Answer.Audited a) = audit_word a
reason_field (Answer.Waits w) = waiting_reason w
reason_field (Answer.Repeats r) = repeating_reason r
reason_field (Answer.Open reason) = reason_words reason

-- a field is empty where there is no number
abbrev pub number_field : Option ℕ → List ℕ
number_field n = option_map_or (λ n. decimal n) n []

-- a row, by its columns
abbrev pub fields : List (List ℕ) → Need → Answer → List (List ℕ)
fields names need a = verdict_word (verdict_of a) ∷ need.id ∷ subject_field names need.what a ∷ measure_field a ∷ number_field (number_of a)
    ∷ number_field (asked_of a) ∷ reason_field a ∷ []

-- the text of a record as `csv` writes it
abbrev pub record_text : List (List ℕ) → List ℕ
record_text fs = row_text default_writer fs

-- no byte of the field calls for quotes
abbrev pub IsPlain : List ℕ → Type 0
IsPlain f = needs_quotes default_writer f ≡ false

-- fields behind others, each with a comma before it, and the end of the line
abbrev pub joined_rest : List (List ℕ) → List ℕ
joined_rest [] = codes "\n"
joined_rest (f ∷ fs) = codes "," ++ (f ++ joined_rest fs)

-- fields with commas between them, where none calls for quotes
abbrev pub joined_record : List ℕ → List (List ℕ) → List ℕ
joined_record first rest = first ++ joined_rest rest

abbrev pub row_record : List (List ℕ) → List Need → Row → List ℕ
row_record names needs row = option_map_or (λ need. record_text (fields names need row.answer)) (slice_get needs row.need) []

-- the whole table, where processes have these names
abbrev pub needs_csv : List (List ℕ) → List Need → List Row → List ℕ
needs_csv names needs rows = record_text columns ++ flat_map (row_record names needs) rows
