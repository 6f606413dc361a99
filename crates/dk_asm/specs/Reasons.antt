-- What is wrong in a line at fault: a text of it, at which operand it stands, and what is wanted there.
use Rattle.std.specs.Prelude.{ℕ, suc, ◌≡◌, ◌==◌, ◌&&◌, ◌||◌, Bool, true, false, is_some, nat_le, if◌then◌else◌, List, [], ◌∷◌, length, replicate, codes, Option, Some, None, IfSome}
use Rattle.std.specs.List.{before_first, list_all}
use Rattle.std.specs.Option.{option_map}
use Rattle.std.specs.Str.{bytes_eq}
use Rattle.dk_asm.specs.declared.fault.LineFault.{LineFault}
use Rattle.dk_asm.specs.declared.kind.Kind.{Kind}
use Rattle.dk_asm.specs.declared.reasons.Wanted.{Wanted}
use Rattle.dk_asm.specs.declared.reasons.Wanted.TheVariants as wanted
use Rattle.dk_asm.specs.declared.table.Mnemonic.{Mnemonic}
use Rattle.dk_asm.specs.Operands.{Operand, IsOperand}
use Rattle.dk_asm.specs.Reading.{read_piece, read_line, pieces_of, behind_word, mnemonic_named, skipped, begins_lower, split_label}
use Rattle.dk_asm.specs.Source.{is_outside, is_form, is_range, label_on, operands_on}
use Rattle.dk_asm.specs.Table.{row_of}
use Rattle.dk_asm.specs.Words.{is_blank}

-- the text that is wrong, the number of its operand from 1, 0 where it is none, and what is wanted in its place
pub record Reason : Type 0 where
  pub text : List ℕ
  pub operand : ℕ
  pub wanted : Wanted

abbrev pub reason : List ℕ → ℕ → Wanted → Reason
reason text operand what = record { text = text; operand = operand; wanted = what }

-- without the blanks behind
abbrev pub without_end : List ℕ → List ℕ
without_end [] = []
without_end (b ∷ bytes) = if list_all is_blank (b ∷ bytes) then [] else b ∷ without_end bytes

-- without those in front too
abbrev pub trimmed : List ℕ → List ℕ
trimmed text = without_end (skipped text)

-- no operand, or a number out of its range where such are looked for
abbrev pub is_wrong : Bool → Option Operand → Bool
is_wrong ranges None = true
is_wrong ranges (Some o) = ranges && is_outside o

-- what is wanted where the operands end; the last few kinds are optional
abbrev pub wrong_end : ℕ → ℕ → List Kind → Option Reason
wrong_end optional k [] = None
wrong_end optional k (kind ∷ kinds) =
    if nat_le (length (kind ∷ kinds)) optional then None else Some (reason [] k (wanted.Operand kind))

-- the first operand from the k-th on that is wrong, missing or one too many
abbrev pub wrong_operand : Bool → ℕ → ℕ → List Kind → List (List ℕ) → Option Reason
wrong_operand ranges optional k kinds [] = wrong_end optional k kinds
wrong_operand ranges optional k [] (piece ∷ pieces) = Some (reason (trimmed piece) k wanted.Nothing)
wrong_operand ranges optional k (kind ∷ kinds) (piece ∷ pieces) =
    if is_wrong ranges (read_piece kind piece) then Some (reason (trimmed piece) k (wanted.Operand kind))
    else wrong_operand ranges optional (suc k) kinds pieces

abbrev pub wrong_instruction : Bool → List ℕ → List (List ℕ) → Option Mnemonic → Option Reason
wrong_instruction ranges name pieces None = Some (reason name 0 wanted.Instruction)
wrong_instruction ranges name pieces (Some m) = wrong_operand ranges 0 1 (row_of m).kinds pieces

-- `BYTES` has one to four numbers
unfoldable pub wrong_statement : Bool → List ℕ → Option Reason
wrong_statement ranges text =
    if bytes_eq (before_first is_blank text) (codes "BYTES")
    then wrong_operand ranges 3 1 (replicate 4 Kind.Byte) (pieces_of (behind_word text)) else
    wrong_instruction ranges (before_first is_blank text) (pieces_of (behind_word text)) (mnemonic_named (before_first is_blank text))

abbrev pub wrong_rest : Bool → List ℕ → Option Reason
wrong_rest ranges [] = None
wrong_rest ranges (b ∷ bytes) = wrong_statement ranges (b ∷ bytes)

abbrev pub wrong_behind : Bool → List ℕ → Option (List ℕ × List ℕ) → Option Reason
wrong_behind ranges text None = Some (reason (before_first is_blank text) 0 wanted.Label)
wrong_behind ranges text (Some cut) = wrong_rest ranges (skipped cut.1)

unfoldable pub wrong_label : Bool → List ℕ → Option Reason
wrong_label ranges text =
    if begins_lower text then wrong_behind ranges text (split_label text) else wrong_rest ranges text

-- the first that is wrong in a line: that isn't of the form, or is out of its range where such are looked for
unfoldable pub wrong_in : Bool → List ℕ → Option Reason
wrong_in ranges bytes = wrong_label ranges (skipped (before_first (λ b. b == 35) bytes))

abbrev pub first_label : List Operand → Option (List ℕ)
first_label [] = None
first_label (Operand.label name ∷ os) = Some name
first_label (Operand.value n ∷ os) = first_label os
first_label (Operand.outside ∷ os) = first_label os

-- what is wrong in a line at fault, where a text of it is
abbrev pub reason_of : LineFault → List ℕ → Option Reason
reason_of LineFault.Form bytes = wrong_in false bytes
reason_of LineFault.Range bytes = wrong_in true bytes
reason_of LineFault.Twice bytes = option_map (λ name. reason name 0 wanted.OwnLabel) (label_on (read_line bytes))
reason_of LineFault.Unknown bytes = option_map (λ name. reason name 0 wanted.KnownLabel) (first_label (operands_on (read_line bytes)))
reason_of LineFault.Short bytes = None
reason_of LineFault.Many bytes = None

-- Something is told exactly of a line that isn't of the form, or, where such are looked for, has a number out of its range.
abbrev pub TellsRefused : List ℕ → Type 0
TellsRefused bytes = (ranges : Bool) → is_some (wrong_in ranges bytes) ≡ (is_form (read_line bytes) || (ranges && is_range (read_line bytes)))

-- What is told isn't what is wanted: no operand of the kind is written so, or none but a number out of its range where such are
-- looked for; and no instruction has the name.
abbrev pub IsAmiss : Bool → List ℕ → Wanted → Type 0
IsAmiss ranges text (wanted.Operand kind) = (o : Operand) → IsOperand kind text o → (ranges && is_outside o) ≡ true
IsAmiss ranges text wanted.Instruction = (m : Mnemonic) → text ≡ (row_of m).name → ⊥
IsAmiss ranges text _ = Unit {0}

abbrev pub TellsAmiss : List ℕ → Type 0
TellsAmiss bytes = (ranges : Bool) → IfSome (wrong_in ranges bytes) (λ r. IsAmiss ranges r.text r.wanted)
