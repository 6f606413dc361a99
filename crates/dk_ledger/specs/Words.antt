-- The words of a ledger's lines, which single blanks part.
use Rattle.std.specs.Prelude.{ℕ, Bool, true, ◌≡◌, ◌||◌, ◌∷◌, [], List, map, take, ◌==◌, slice_index_or, decimal, codes, Option, Some, None}
use Rattle.std.specs.Borrow.{Bor}
use Rattle.std.specs.List.{AllByRecursion, list_all, slice_split}
use Rattle.dk_config.specs.Rules.{is_word}
use Rattle.dk_trace.specs.declared.Source.{Source}
use Rattle.dk_trace.specs.declared.Label.{Label}
use Rattle.dk_trace.specs.declared.Event.{Event}
use Rattle.dk_trace.specs.Says.{arguments_of, word_of}
use Rattle.dk_certify.specs.declared.table.TableRow.{TableRow}
use Rattle.dk_ledger.specs.declared.header.ProcessLine.{ProcessLine}
use Rattle.dk_ledger.specs.declared.line.LedgerLine.{LedgerLine}
use Rattle.dk_ledger.specs.Heading.{Heading}
use Rattle.dk_ledger.specs.LineText.{argument_words, thread_text, work_text}

-- what the words of a `&[&str]` are
abbrev pub texts : List (Bor (List ℕ)) → List (List ℕ)
texts words = map (λ w. w.now) words

-- the first 12 words of a line, which single blanks part
abbrev pub words_of : List ℕ → List (List ℕ)
words_of line = take 12 (slice_split (λ b. b == 32) line)

-- the first word, empty where there is none
abbrev pub first_word : List (Bor (List ℕ)) → List ℕ
first_word words = (slice_index_or words 0 (record { ref_ptr = (0, 0); now = [] })).now

abbrev pub level_words : ℕ → TableRow → List (List ℕ)
level_words j row =
    (codes "level" ∷ decimal j ∷ codes "period" ∷ decimal row.period ∷ codes "demand" ∷ decimal row.demand
    ∷ codes "blocking" ∷ decimal row.blocking ∷ codes "spare" ∷ decimal row.spare ∷ [])

abbrev pub process_words : ProcessLine → List (List ℕ)
process_words p = codes "process" ∷ p.name ∷ codes "level" ∷ decimal p.level ∷ codes "budget" ∷ decimal p.budget ∷ []

abbrev pub end_words : ℕ → List (List ℕ)
end_words n = codes "end" ∷ decimal n ∷ []

-- the words of a source of slack, and then more
abbrev pub source_words : Source → List (List ℕ) → List (List ℕ)
source_words Source.Timeline more = codes "timeline" ∷ more
source_words (Source.Reclaimed j) more = codes "reclaimed" ∷ decimal j ∷ more

-- the words of a label, and then more
abbrev pub label_words : Heading → Label → List (List ℕ) → List (List ℕ)
label_words h (Label.Kernel j) more = codes "kernel" ∷ decimal j ∷ more
label_words h (Label.In x) more = codes "in" ∷ thread_text h x ∷ more
label_words h (Label.Run x) more = codes "run" ∷ thread_text h x ∷ more
label_words h (Label.Call x) more = codes "call" ∷ thread_text h x ∷ more
label_words h (Label.Out x) more = codes "out" ∷ thread_text h x ∷ more
label_words h (Label.Slack x source work) more =
    codes "slack" ∷ source_words source (work_text work ∷ thread_text h x ∷ more)
label_words h Label.Idle more = codes "idle" ∷ more

-- the words of an event, where there is one: its word, and what stands behind it
abbrev pub event_words : Option Event → List (List ℕ)
event_words None = []
event_words (Some event) = word_of event ∷ argument_words (arguments_of event)

abbrev pub line_words : Heading → LedgerLine → List (List ℕ)
line_words h l = decimal l.start ∷ decimal l.count ∷ label_words h l.label (event_words l.event)

-- a lower letter, a digit, an underscore or a dot
abbrev pub is_spelled : ℕ → Bool
is_spelled b = is_word b || b == 46

abbrev pub IsSpelled : List ℕ → Type 0
IsSpelled word = list_all is_spelled word ≡ true

abbrev pub AreSpelled : List (List ℕ) → Type 0
AreSpelled ws = AllByRecursion IsSpelled ws
