-- What it is to cut a list of entries into lines.
use Rattle.std.specs.Prelude.{ℕ, ◌+◌, ◌-◌, ◌≡◌, ◌<◌, false, List, [], ◌∷◌, ◌++◌, None, flat_map, replicate}
use Rattle.dk_trace.specs.declared.Entry.{Entry}
use Rattle.dk_ledger.specs.declared.line.LedgerLine.{LedgerLine}
use Rattle.dk_ledger.specs.Lines.{joins}

-- the entries of a line: all have its label, and the last has its event
abbrev pub entries_of : LedgerLine → List Entry
entries_of l =
    replicate (l.count - 1) (record { label = l.label; event = None })
    ++ record { label = l.label; event = l.event } ∷ []

-- no line is empty
abbrev pub AreFilled : List LedgerLine → Type 0
AreFilled [] = Unit {0}
AreFilled (l ∷ ls) = (0 < l.count) × AreFilled ls

-- each line starts where the one before ends
abbrev pub AreInTurn : ℕ → List LedgerLine → Type 0
AreInTurn start [] = Unit {0}
AreInTurn start (l ∷ ls) = (l.start ≡ start) × AreInTurn (start + l.count) ls

-- no two neighbours can be joined
abbrev pub AreApart : List LedgerLine → Type 0
AreApart [] = Unit {0}
AreApart (l ∷ []) = Unit {0}
AreApart (l ∷ m ∷ ls) = (joins l.label l.event m.label ≡ false) × AreApart (m ∷ ls)

pub record IsCutFrom (start : ℕ) (es : List Entry) (ls : List LedgerLine) : Type 0 where
  pub whole : flat_map entries_of ls ≡ es
  pub filled : AreFilled ls
  pub in_turn : AreInTurn start ls
  pub apart : AreApart ls

abbrev pub IsCut : List Entry → List LedgerLine → Type 0
IsCut es ls = IsCutFrom 0 es ls
