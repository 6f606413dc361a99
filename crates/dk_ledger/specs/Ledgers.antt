-- The text of a ledger, and how far a writer is with it.
use Rattle.std.specs.Prelude.{ℕ, suc, ◌≡◌, ◌++◌, ◌∷◌, [], List, length, decimal, codes, Option, Some, None, IfSome, if◌then◌else◌}
use Rattle.dk_trace.specs.declared.Entry.{Entry}
use Rattle.dk_ledger.specs.Heading.{Heading, header_text, ended}
use Rattle.dk_ledger.specs.Lines.{joins, single, lines_of}
use Rattle.dk_ledger.specs.LineText.{ledger_line, lines_text}
use Rattle.dk_ledger.specs.declared.line.LedgerLine.{LedgerLine}

abbrev pub end_line : ℕ → List ℕ
end_line n = ended (codes "end " ++ decimal n)

-- all that comes after the header
abbrev pub entries_text : Heading → List Entry → List ℕ
entries_text h es = lines_text h (lines_of es) ++ end_line (length es)

abbrev pub ledger_text : Heading → List Entry → List ℕ
ledger_text h es = header_text h ++ entries_text h es

abbrev pub last_of : List LedgerLine → Option LedgerLine
last_of [] = None
last_of (l ∷ []) = Some l
last_of (l ∷ m ∷ ls) = last_of (m ∷ ls)

abbrev pub all_but_last : List LedgerLine → List LedgerLine
all_but_last [] = []
all_but_last (l ∷ []) = []
all_but_last (l ∷ m ∷ ls) = l ∷ all_but_last (m ∷ ls)

-- the text of the lines to which no further entry can be added
abbrev pub closed_text : Heading → List Entry → List ℕ
closed_text h es = lines_text h (all_but_last (lines_of es))

-- how many entries there were, and the last line, if there is one
pub record Progress : Type 0 where
  pub entries : ℕ
  pub last : Option LedgerLine

-- this is how far a writer is after these entries
pub record IsAfter (es : List Entry) (w : Progress) : Type 0 where
  pub entries : w.entries ≡ length es
  pub last : w.last ≡ last_of (lines_of es)

-- how far a writer is, and the text that it has ready
pub record Drafted : Type 0 where
  pub progress : Progress
  pub draft : Option (List ℕ)

-- the text that is ready is that of the last line under this header
abbrev pub IsDraftOf : Heading → Drafted → Type 0
IsDraftOf h w = IfSome w.draft (λ text. IfSome w.progress.last (λ l. text ≡ ledger_line h l))

-- the last line after one more entry, of which there were n before
abbrev pub last_after : Option LedgerLine → ℕ → Entry → LedgerLine
last_after None n e = single n e
last_after (Some l) n e =
    if joins l.label l.event e.label then (record l { count = suc l.count; event = e.event }) else (single n e)

-- what can be written once the entry is known
abbrev pub closing_text : Heading → Option LedgerLine → Entry → List ℕ
closing_text h None e = []
closing_text h (Some l) e = if joins l.label l.event e.label then [] else (ledger_line h l)

abbrev pub last_text : Heading → Option LedgerLine → List ℕ
last_text h None = []
last_text h (Some l) = ledger_line h l

-- what a writer that has had all entries still writes
abbrev pub ending_text : Heading → Progress → List ℕ
ending_text h w = last_text h w.last ++ end_line w.entries
