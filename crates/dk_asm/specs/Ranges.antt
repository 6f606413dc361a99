-- Which numbers may stand at the places of operands.
use Rattle.std.specs.Prelude.{ℕ, ◌<◌, List, [], ◌∷◌, ◌++◌, ◌≡◌, length, map, replicate, Option, Some, None}
use Rattle.std.specs.BTreeMap.{BTreeMap}
use Rattle.std.specs.Borrow.{Bor}
use Rattle.std.specs.Option.{option_map_or}
use Rattle.dk_asm.specs.declared.kind.Kind.{Kind}
use Rattle.dk_asm.specs.declared.labels.Place.{Place}
use Rattle.dk_asm.specs.Table.{row_of}
use Rattle.dk_asm.specs.Operands.{Operand}
use Rattle.dk_asm.specs.Grammar.{Statement}
use Rattle.dk_asm.specs.Source.{Line, statement_on, IsLineCode}
use Rattle.dk_asm.specs.declared.operand.Operand.{Operand as ReadOperand}
use Rattle.dk_asm.specs.Seen.{operands}
use Rattle.dk_asm.specs.Places.{place_in}

abbrev pub FitsPlace : Kind → ℕ → Type 0
FitsPlace Kind.Register n = n < 8
FitsPlace Kind.Byte n = n < 256
FitsPlace _ n = n < 65536

-- one number for each place, and each fits it
abbrev pub FitPlaces : List Kind → List ℕ → Type 0
FitPlaces [] [] = Unit {0}
FitPlaces (kind ∷ kinds) (n ∷ ns) = FitsPlace kind n × FitPlaces kinds ns
FitPlaces _ _ = ⊥

-- the value of an operand, by the places of the labels
abbrev pub value_by : BTreeMap (Bor (List ℕ)) Place → Operand → ℕ
value_by places (Operand.value n) = n
value_by places (Operand.label name) = option_map_or (λ p. p.value) (place_in places name) 0
value_by places Operand.outside = 0

abbrev pub values_by : BTreeMap (Bor (List ℕ)) Place → List ReadOperand → List ℕ
values_by places os = map (value_by places) (operands os)

abbrev pub FitsStatement : (Operand → ℕ) → Statement → Type 0
FitsStatement value (Statement.instruction m os) = FitPlaces (row_of m).kinds (map value os)
FitsStatement value (Statement.bytes os) = FitPlaces (replicate (length os) Kind.Byte) (map value os)

abbrev pub FitsPart : (Operand → ℕ) → Option Statement → Type 0
FitsPart value None = Unit {0}
FitsPart value (Some s) = FitsStatement value s

-- the values of a line's operands fit their places
abbrev pub FitsLine : (Operand → ℕ) → Line → Type 0
FitsLine value line = FitsPart value (statement_on line)

-- the same as `IsStatementCode`, appended to what was there
abbrev pub AppendsCode : (Operand → ℕ) → Option Statement → List ℕ → List ℕ → Type 0
AppendsCode value s old new = (code : List ℕ) × IsLineCode value s code × (new ≡ old ++ code)
