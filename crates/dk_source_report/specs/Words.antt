-- The words of the line of a line at fault.
use Rattle.std.specs.Prelude.{ℕ, ◌&&◌, ◌==◌, nat_lt, nat_le, Bool, if◌then◌else◌, List, [], ◌++◌, length, codes, decimal, Option, Some, None}
use Rattle.std.specs.List.{list_all}
use Rattle.dk_asm.specs.declared.fault.LineFault.{LineFault}
use Rattle.dk_asm.specs.declared.fault.LineFault.TheVariants as cause
use Rattle.dk_asm.specs.declared.kind.Kind.{Kind}
use Rattle.dk_asm.specs.declared.kind.Kind.TheVariants as kind
use Rattle.dk_asm.specs.declared.reasons.Wanted.{Wanted}
use Rattle.dk_asm.specs.declared.reasons.Wanted.TheVariants as wanted
use Rattle.dk_asm.specs.Reasons.{Reason}

-- the cause, as deosk tells it
abbrev pub cause_word : LineFault → List ℕ
cause_word cause.Form = codes "form"
cause_word cause.Range = codes "range"
cause_word cause.Twice = codes "twice"
cause_word cause.Unknown = codes "unknown"
cause_word cause.Short = codes "short"
cause_word cause.Many = codes "many"

abbrev pub kind_text : Kind → List ℕ
kind_text kind.Register = codes "a register r0 to r7 is wanted"
kind_text kind.Byte = codes "a decimal number up to 255 is wanted"
kind_text kind.Word = codes "a decimal number up to 65535 is wanted"
kind_text kind.Value = codes "a decimal number up to 65535 or a label is wanted"
kind_text kind.Signed = codes "a decimal number up to 65535, one from -32768 to -1, or a label is wanted"

abbrev pub wanted_text : Wanted → List ℕ
wanted_text wanted.Label =
    codes "a label of 1 to 16 of a to z, 0 to 9 and _ with a colon directly behind it, or an instruction in capitals, is wanted"
wanted_text wanted.Instruction = codes "the name of an instruction in capitals is wanted"
wanted_text (wanted.Operand k) = kind_text k
wanted_text wanted.Nothing = codes "no further operand and no comma is wanted"
wanted_text wanted.OwnLabel = codes "a label that no earlier line has is wanted"
wanted_text wanted.KnownLabel = codes "a label that some line has is wanted"

-- the number of an operand, from 1
abbrev pub place_text : ℕ → List ℕ
place_text operand = if operand == 0 then [] else (codes "operand " ++ (decimal operand ++ codes ": "))

abbrev pub is_plain : ℕ → Bool
is_plain b = nat_le 32 b && nat_le b 126

-- one to sixty printable bytes
abbrev pub is_printable : List ℕ → Bool
is_printable text = (nat_lt 0 (length text) && nat_le (length text) 60) && list_all is_plain text

-- the text that is wrong, where it can be told in a line
abbrev pub this_text : List ℕ → List ℕ
this_text text = if is_printable text then codes ", this is " ++ text else []

abbrev pub reason_text : Reason → List ℕ
reason_text r = place_text r.operand ++ (wanted_text r.wanted ++ this_text r.text)

-- of a cause for which no text of the line is wrong
abbrev pub plain_text : LineFault → List ℕ
plain_text cause.Short = codes "four numbers are wanted where a later line has an instruction"
plain_text cause.Many = codes "16384 instructions at most are wanted"
plain_text _ = []

abbrev pub why_text : LineFault → Option Reason → List ℕ
why_text cause None = plain_text cause
why_text cause (Some r) = reason_text r
