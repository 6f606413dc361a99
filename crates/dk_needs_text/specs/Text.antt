-- What is told of the rows, as text: a line each, and how many are met, missed and open.
use Rattle.std.specs.Prelude.{ℕ, ◌*◌, ◌==◌, Bool, true, false, List, [], ◌++◌, length, filter, flat_map, slice_get, codes, decimal, if◌then◌else◌, Option, Some, None}
use Rattle.std.specs.Option.{option_map_or}
use Rattle.dk_needs.specs.Wanted.{Wanted}
use Rattle.dk_needs.specs.declared.needs.Need.{Need}
use Rattle.dk_needs.specs.declared.needs.Tick.{Tick}
use Rattle.dk_needs.specs.declared.needs.Unit.{Unit}
use Rattle.dk_needs.specs.declared.needs.What.{What}
use Rattle.dk_needs_check.specs.declared.row.Answer.{Answer}
use Rattle.dk_needs_check.specs.declared.row.Audit.{Audit}
use Rattle.dk_needs_check.specs.declared.row.Bound.{Bound}
use Rattle.dk_needs_check.specs.declared.row.Measure.{Measure}
use Rattle.dk_needs_check.specs.declared.row.Reason.{Reason}
use Rattle.dk_needs_check.specs.declared.row.Repeating.{Repeating}
use Rattle.dk_needs_check.specs.declared.row.Row.{Row}
use Rattle.dk_needs_check.specs.declared.row.Verdict.{Verdict}
use Rattle.dk_needs_check.specs.declared.row.Waiting.{Waiting}
use Rattle.dk_needs_check.specs.Bounds.{is_met, is_upper, verdict_of}
use Rattle.dk_needs_text.specs.Names.{name_at}

abbrev pub verdict_word : Verdict → List ℕ
verdict_word Verdict.Met = codes "met"
verdict_word Verdict.Missed = codes "missed"
verdict_word Verdict.Open = codes "open"

abbrev pub measure_words : Measure → List ℕ
measure_words Measure.Done = codes "done by"
measure_words Measure.Reaction = codes "reaction"
measure_words Measure.Age = codes "age"
measure_words Measure.BeginsJitter = codes "begins jitter"
measure_words Measure.DoneJitter = codes "done jitter"
measure_words Measure.ReactionJitter = codes "reaction jitter"
measure_words Measure.Budget = codes "budget up to"
measure_words Measure.Hold = codes "hold up to"
measure_words Measure.Release = codes "release up to"
measure_words Measure.Growth = codes "growth up to"
measure_words Measure.Spare = codes "spare"
measure_words Measure.Slack = codes "slack up to"
measure_words Measure.SlackBy = codes "slack had by"
measure_words Measure.Overruns = codes "overruns"
measure_words Measure.Refused = codes "refused"
measure_words Measure.Faults = codes "faults"

abbrev pub reason_words : Reason → List ℕ
reason_words Reason.NotTested = codes "not tested"
reason_words Reason.NoLedger = codes "no ledger"

-- whose number it is
abbrev pub subject_of : What → List ℕ
subject_of (What.Deadline name within) = name
subject_of (What.Jitter name begins whole) = name
subject_of (What.Budget name budget) = name
subject_of (What.Hold name hold) = name
subject_of (What.Release level release) = codes "level " ++ decimal level
subject_of (What.Spare level ticks) = codes "level " ++ decimal level
subject_of (What.Slack name each within) = name
subject_of (What.Always name) = name
subject_of _ = []

-- a word before others, if there is one
abbrev pub before_space : List ℕ → List ℕ
before_space word = if length word == 0 then [] else (word ++ codes " ")

abbrev pub number_text : Option ℕ → List ℕ
number_text None = codes "none"
number_text (Some n) = decimal n

-- between the number and what is asked of it: at most, or at least
abbrev pub between_text : Bool → List ℕ
between_text upper = if upper then (codes " of ") else (codes " needs ")

abbrev pub bound_text : Bound → List ℕ
bound_text b =
    measure_words b.measure ++ (codes " " ++ (number_text b.number ++ (between_text (is_upper b.measure) ++ decimal b.asked)))

abbrev pub unit_word : Unit → List ℕ
unit_word Unit.Nanoseconds = codes "ns"
unit_word Unit.Microseconds = codes "us"
unit_word Unit.Milliseconds = codes "ms"
unit_word Unit.Seconds = codes "s"

-- so many ticks as a time, exactly
abbrev pub time_text : Tick → Option ℕ → List ℕ
time_text tick None = codes "none"
time_text tick (Some n) = decimal (n * tick.amount) ++ unit_word tick.unit

-- all numbers but growth and what is counted are times
abbrev pub is_time : Measure → Bool
is_time Measure.Growth = false
is_time Measure.Overruns = false
is_time Measure.Refused = false
is_time Measure.Faults = false
is_time _ = true

abbrev pub times_of : Tick → Bound → List ℕ
times_of tick b =
    codes ", " ++ (time_text tick b.number ++ (between_text (is_upper b.measure) ++ time_text tick (Some b.asked)))

-- the same numbers as times, where the needs say how long a tick is
abbrev pub times_text : Option Tick → Bound → List ℕ
times_text None b = []
times_text (Some tick) b = if is_time b.measure then times_of tick b else []

-- under which condition a bound is kept that would be
abbrev pub condition_text : Bound → List ℕ
condition_text b = if is_met b then (codes " if all keep to their slack") else []

-- what an audit found
abbrev pub audit_text : Audit → List ℕ
audit_text (Audit.Passed n) = codes "audit passed " ++ decimal n
audit_text (Audit.Label n) = codes "audit tick " ++ (decimal n ++ codes " label")
audit_text (Audit.Event n) = codes "audit tick " ++ (decimal n ++ codes " event")

-- whether a main waits in each of its windows
abbrev pub waiting_text : Waiting → List ℕ
waiting_text Waiting.Always = codes "waits in each window"
waiting_text (Waiting.NotFrom n) = codes "no wait in the window from " ++ decimal n
waiting_text (Waiting.NotWithin n) = codes "not within " ++ decimal n
waiting_text Waiting.ReadsTick = codes "reads the tick"
waiting_text Waiting.HasThreads = codes "has threads"
waiting_text Waiting.HasSlack = codes "has slack"

-- whether the run repeats, where processes have these names
abbrev pub repeating_text : List (List ℕ) → Repeating → List ℕ
repeating_text names (Repeating.Every start every) = codes "repeats from " ++ (decimal start ++ (codes " every " ++ decimal every))
repeating_text names (Repeating.NotWithin n) = codes "repeats not within " ++ decimal n
repeating_text names (Repeating.ReadsTick p) = codes "repeats unknown " ++ (name_at names p ++ codes " reads the tick")

abbrev pub answer_text : List (List ℕ) → Option Tick → What → Answer → List ℕ
answer_text names tick what (Answer.Tested b) = before_space (subject_of what) ++ (bound_text b ++ times_text tick b)
answer_text names tick what (Answer.IfKept b) = (before_space (subject_of what) ++ (bound_text b ++ times_text tick b)) ++ condition_text b
answer_text names tick what Answer.NoRight = before_space (subject_of what) ++ codes "may not ask for slack"
answer_text names tick what (Answer.Audited a) = audit_text a
answer_text names tick what (Answer.Waits w) = before_space (subject_of what) ++ waiting_text w
answer_text names tick what (Answer.Repeats r) = repeating_text names r
answer_text names tick what (Answer.Open reason) = reason_words reason

abbrev pub line_of : List ℕ → List ℕ → List ℕ → List ℕ
line_of verdict id answer = verdict ++ (codes " " ++ (id ++ (codes " " ++ (answer ++ codes "\n"))))

abbrev pub answer_line : List (List ℕ) → Option Tick → Need → Answer → List ℕ
answer_line names tick need answer =
    line_of (verdict_word (verdict_of answer)) need.id (answer_text names tick need.what answer)

abbrev pub row_line : List (List ℕ) → Option Tick → List Need → Row → List ℕ
row_line names tick needs row = option_map_or (λ need. answer_line names tick need row.answer) (slice_get needs row.need) []

abbrev pub is_like : Verdict → Verdict → Bool
is_like Verdict.Met Verdict.Met = true
is_like Verdict.Missed Verdict.Missed = true
is_like Verdict.Open Verdict.Open = true
is_like _ _ = false

-- of how many rows this is the verdict
abbrev pub how_many : Verdict → List Row → ℕ
how_many told rows = length (filter (λ (row : Row). is_like told (verdict_of row.answer)) rows)

abbrev pub count_text : ℕ → ℕ → ℕ → List ℕ
count_text met missed untested = codes "met "
    ++ (decimal met ++ (codes " missed " ++ (decimal missed ++ (codes " open " ++ (decimal untested ++ codes "\n")))))

abbrev pub count_line : List Row → List ℕ
count_line rows = count_text (how_many Verdict.Met rows) (how_many Verdict.Missed rows) (how_many Verdict.Open rows)

-- the whole text, where processes have these names
abbrev pub needs_text : List (List ℕ) → Wanted → List Row → List ℕ
needs_text names needs rows = flat_map (row_line names needs.tick needs.rows) rows ++ count_line rows
