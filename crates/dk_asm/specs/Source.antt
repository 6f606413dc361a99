-- What a source gives: the bytes of its instructions in order, or the first line at fault with the cause.
use Rattle.std.specs.Prelude.{ℕ, suc, ◌≡◌, ◌+◌, ◌<◌, ◌==◌, ◌&&◌, Bool, true, false, nat_lt, List, [], ◌∷◌, ◌++◌, length, map, take, drop, slice_get, if◌then◌else◌, Option, Some, None, is_some, is_none, unwrap_or, Result, Ok, Err}
use Rattle.std.specs.Global.{Vec}
use Rattle.std.specs.List.{list_any, slice_split}
use Rattle.std.specs.Option.{option_map, option_map_or, option_and_then}
use Rattle.std.specs.Str.{bytes_eq}
use Rattle.dk_isa.specs.declared.Instr.{Instr}
use Rattle.dk_isa.specs.Table.{bytes_of}
use Rattle.dk_asm.specs.declared.fault.LineFault.{LineFault}
use Rattle.dk_asm.specs.declared.fault.AsmFault.{AsmFault}
use Rattle.dk_asm.specs.Table.{written, with_values}
use Rattle.dk_asm.specs.Operands.{Operand}
use Rattle.dk_asm.specs.Grammar.{Statement, Parts, IsLine}
use Rattle.dk_asm.specs.declared.TheConstants.{MAX_INSTRUCTIONS}

-- a line of a source: its parts, or none where it isn't of the form
abbrev pub Line : Type 0
Line = Option Parts

abbrev pub without_empty_end : List (List ℕ) → List (List ℕ)
without_empty_end [] = []
without_empty_end (line ∷ []) = if length line == 0 then [] else line ∷ []
without_empty_end (line ∷ next ∷ lines) = line ∷ without_empty_end (next ∷ lines)

-- the lines of a text, which end with line feeds; a last one without a line feed counts where it isn't empty
abbrev pub lines_of : List ℕ → List (List ℕ)
lines_of text = without_empty_end (slice_split (λ b. b == 10) text)

abbrev pub IsRead : List ℕ → Line → Type 0
IsRead bytes (Some p) = IsLine bytes p
IsRead bytes None = (p : Parts) → IsLine bytes p → ⊥

-- each line has its parts, or is none
abbrev pub AreRead : List (List ℕ) → List Line → Type 0
AreRead [] [] = Unit {0}
AreRead (bytes ∷ lines) (line ∷ source) = IsRead bytes line × AreRead lines source
AreRead _ _ = ⊥

abbrev pub statement_on : Line → Option Statement
statement_on line = option_and_then (λ p. p.statement) line

abbrev pub label_on : Line → Option (List ℕ)
label_on line = option_and_then (λ p. p.label) line

abbrev pub has_label : List ℕ → Line → Bool
has_label name line = option_map_or (λ label. bytes_eq label name) (label_on line) false

abbrev pub has_instruction : Line → Bool
has_instruction line = is_some (statement_on line)

-- how many instructions the lines have
abbrev pub instructions : List Line → ℕ
instructions [] = 0
instructions (line ∷ lines) = (if has_instruction line then 1 else 0) + instructions lines

-- the value of a label: how many instructions the lines before its first line have
abbrev pub label_value : List Line → List ℕ → Option ℕ
label_value [] name = None
label_value (line ∷ lines) name =
    if has_label name line then Some 0 else option_map (λ n. (if has_instruction line then 1 else 0) + n)
    (label_value lines name)

abbrev pub operands_of : Statement → List Operand
operands_of (Statement.instruction m os) = os
operands_of (Statement.bytes os) = os

abbrev pub operands_on : Line → List Operand
operands_on line = option_map_or operands_of (statement_on line) []

abbrev pub is_outside : Operand → Bool
is_outside Operand.outside = true
is_outside _ = false

-- a label that no line has
abbrev pub is_unknown : List Line → Operand → Bool
is_unknown source (Operand.label name) = is_none (label_value source name)
is_unknown source _ = false

abbrev pub is_form : Line → Bool
is_form line = is_none line

abbrev pub is_range : Line → Bool
is_range line = list_any is_outside (operands_on line)

-- its label is on a line before
abbrev pub is_twice : List Line → Line → Bool
is_twice before line = option_map_or (λ name. list_any (has_label name) before) (label_on line) false

-- its imm is a label that no line has
abbrev pub has_unknown : List Line → Line → Bool
has_unknown source line = list_any (is_unknown source) (operands_on line)

abbrev pub is_part : Statement → Bool
is_part (Statement.instruction m os) = false
is_part (Statement.bytes os) = nat_lt (length os) 4

abbrev pub has_part : Line → Bool
has_part line = option_map_or is_part (statement_on line) false

-- its `BYTES` has fewer than four numbers, and a line behind has an instruction
abbrev pub is_short : Line → List Line → Bool
is_short line behind = has_part line && nat_lt 0 (instructions behind)

-- it has the instruction after the 16,384th
abbrev pub is_one_too_many : List Line → Line → Bool
is_one_too_many before line = has_instruction line && (instructions before == MAX_INSTRUCTIONS)

-- the first cause that holds of a line, between the lines before it and those behind it
abbrev pub cause_of : List Line → Line → List Line → Option LineFault
cause_of before line behind =
    if is_form line then Some LineFault.Form else (
    if is_range line then Some LineFault.Range else (
    if is_twice before line then Some LineFault.Twice else (
    if has_unknown (before ++ line ∷ behind) line then Some LineFault.Unknown else (
    if is_short line behind then Some LineFault.Short else (
    if is_one_too_many before line then Some LineFault.Many else None)))))

-- the cause for which the line at this place is at fault, from 0
abbrev pub cause_at : List Line → ℕ → Option LineFault
cause_at source i = option_and_then (λ line. cause_of (take i source) line (drop (suc i) source)) (slice_get source i)

abbrev pub value_of : List Line → Operand → ℕ
value_of source (Operand.value n) = n
value_of source (Operand.label name) = unwrap_or (label_value source name) 0
value_of source Operand.outside = 0

-- the bytes of an instruction are those of the table's instruction that is written with these values
abbrev pub IsStatementCode : (Operand → ℕ) → Statement → List ℕ → Type 0
IsStatementCode value (Statement.instruction m os) code =
    (i : Instr) × (written i ≡ with_values m (map value os)) × (code ≡ bytes_of i)
IsStatementCode value (Statement.bytes os) code = code ≡ map value os

abbrev pub IsLineCode : (Operand → ℕ) → Option Statement → List ℕ → Type 0
IsLineCode value None code = code ≡ []
IsLineCode value (Some s) code = IsStatementCode value s code

-- the code of the lines, one behind the other
abbrev pub IsCode : (Operand → ℕ) → List Line → List ℕ → Type 0
IsCode value [] code = code ≡ []
IsCode value (line ∷ lines) code =
    (front rest : List ℕ) × (code ≡ front ++ rest) × IsLineCode value (statement_on line) front
    × IsCode value lines rest

-- a program, or a line at fault by its number, from 1
pub data Outcome : Type 0 where
  program : List ℕ → Outcome
  fault : ℕ → LineFault → Outcome

abbrev pub IsOutcome : List Line → Outcome → Type 0
IsOutcome source (Outcome.program code) = ((i : ℕ) → cause_at source i ≡ None) × IsCode (value_of source) source code
IsOutcome source (Outcome.fault n cause) =
    (i : ℕ) × (n ≡ i + 1) × (cause_at source i ≡ Some cause) × ((j : ℕ) → j < i → cause_at source j ≡ None)

pub record Assembled (text : List ℕ) (outcome : Outcome) : Type 0 where
  pub source : List Line
  pub read : AreRead (lines_of text) source
  pub gives : IsOutcome source outcome

-- the outcome that an answer tells; want of memory tells none
abbrev pub told : Result (Vec ℕ) AsmFault → Option Outcome
told (Ok code) = Some (Outcome.program code.items)
told (Err (AsmFault.Line number cause)) = Some (Outcome.fault number cause)
told (Err AsmFault.NoMemory) = None
