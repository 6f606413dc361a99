-- The form of a line of a source.
use Rattle.std.specs.Prelude.{ℕ, ◌≡◌, ◌≤◌, true, List, [], ◌∷◌, ◌++◌, length, replicate, codes, Option, Some, None}
use Rattle.dk_config.specs.Rules.{is_name}
use Rattle.dk_asm.specs.declared.kind.Kind.{Kind}
use Rattle.dk_asm.specs.declared.table.Mnemonic.{Mnemonic}
use Rattle.dk_asm.specs.Table.{row_of}
use Rattle.dk_asm.specs.Words.{is_blank, AreBlanks}
use Rattle.dk_asm.specs.Operands.{Operand, IsOperand}

-- an instruction of the table with its operands, or the numbers of `BYTES`
pub data Statement : Type 0 where
  instruction : Mnemonic → List Operand → Statement
  bytes : List Operand → Statement

-- what a line says beside its comment
pub record Parts : Type 0 where
  pub label : Option (List ℕ)
  pub statement : Option Statement

-- an operand with blanks around it
pub record IsPiece (text : List ℕ) (kind : Kind) (o : Operand) : Type 0 where
  pub before : List ℕ
  pub word : List ℕ
  pub after : List ℕ
  pub whole : text ≡ before ++ (word ++ after)
  pub blank_before : AreBlanks before
  pub operand : IsOperand kind word o
  pub blank_after : AreBlanks after

-- operands of these kinds, parted by commas
abbrev pub AreOperands : List ℕ → List Kind → List Operand → Type 0
AreOperands text (kind ∷ []) (o ∷ []) = IsPiece text kind o
AreOperands text (kind ∷ next ∷ kinds) (o ∷ os) =
    (piece rest : List ℕ) × (text ≡ piece ++ (codes "," ++ rest)) × IsPiece piece kind o
    × AreOperands rest (next ∷ kinds) os
AreOperands text _ _ = ⊥

-- a name, and where it has operands at least one blank and they
abbrev pub IsNamed : List ℕ → List ℕ → List Kind → List Operand → Type 0
IsNamed text name [] os = (text ≡ name) × (os ≡ [])
IsNamed text name (kind ∷ kinds) os =
    (blank : ℕ) × (rest : List ℕ) × (text ≡ name ++ blank ∷ rest) × (is_blank blank ≡ true)
    × AreOperands rest (kind ∷ kinds) os

-- `BYTES` has one to four numbers
abbrev pub IsStatement : List ℕ → Statement → Type 0
IsStatement text (Statement.instruction m os) = IsNamed text (row_of m).name (row_of m).kinds os
IsStatement text (Statement.bytes os) =
    (1 ≤ length os) × (length os ≤ 4) × IsNamed text (codes "BYTES") (replicate (length os) Kind.Byte) os

-- a name with a colon directly behind it, or nothing
abbrev pub IsLabelPart : List ℕ → Option (List ℕ) → Type 0
IsLabelPart text None = text ≡ []
IsLabelPart text (Some name) = (text ≡ name ++ codes ":") × (is_name name ≡ true)

abbrev pub IsStatementPart : List ℕ → Option Statement → Type 0
IsStatementPart text None = text ≡ []
IsStatementPart text (Some s) = IsStatement text s

-- nothing, or `#` and any bytes
abbrev pub IsComment : List ℕ → Type 0
IsComment [] = Unit {0}
IsComment (b ∷ more) = b ≡ 35

-- The bytes are a label, an instruction and a comment, each of which may be missing, with blanks before, between and behind them.
pub record IsLine (bytes : List ℕ) (p : Parts) : Type 0 where
  pub before : List ℕ
  pub label : List ℕ
  pub between : List ℕ
  pub statement : List ℕ
  pub behind : List ℕ
  pub comment : List ℕ
  pub whole : bytes ≡ before ++ (label ++ (between ++ (statement ++ (behind ++ comment))))
  pub blank_before : AreBlanks before
  pub label_part : IsLabelPart label p.label
  pub blank_between : AreBlanks between
  pub statement_part : IsStatementPart statement p.statement
  pub blank_behind : AreBlanks behind
  pub comment_part : IsComment comment
