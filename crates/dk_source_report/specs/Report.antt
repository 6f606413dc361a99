-- All that is wrong with a source, a line each.
use Rattle.std.specs.Prelude.{ℕ, ◌≡◌, ◌+◌, ◌==◌, List, [], ◌∷◌, ◌++◌, length, filter, codes, decimal, slice_get, Option, Some, None, is_some, is_none}
use Rattle.std.specs.Option.{option_map_or}
use Rattle.dk_asm.specs.declared.fault.LineFault.{LineFault}
use Rattle.dk_asm.specs.Causes.{causes_of, fault_of}
use Rattle.dk_asm.specs.Reasons.{reason_of}
use Rattle.dk_asm.specs.Source.{lines_of, Outcome, Assembled}
use Rattle.dk_source_report.specs.Words.{cause_word, why_text}

-- the line of deosk's refusal, and what is wanted
abbrev pub fault_line : ℕ → List ℕ → LineFault → List ℕ
fault_line number bytes cause = codes "asm: line "
    ++ (decimal number
    ++ (codes " " ++ (cause_word cause ++ (codes ": " ++ (why_text cause (reason_of cause bytes) ++ codes "\n")))))

-- nothing of a line that isn't at fault
abbrev pub told_line : ℕ → List ℕ → Option LineFault → List ℕ
told_line number bytes None = []
told_line number bytes (Some cause) = fault_line number bytes cause

abbrev pub cause_in : List (Option LineFault) → ℕ → Option LineFault
cause_in causes i = option_map_or (λ cause. cause) (slice_get causes i) None

-- the lines from this place on, from 0, that are at fault
abbrev pub lines_text : List (Option LineFault) → ℕ → List (List ℕ) → List ℕ
lines_text causes i [] = []
lines_text causes i (bytes ∷ lines) = told_line (i + 1) bytes (cause_in causes i) ++ lines_text causes (i + 1) lines

-- how many lines are at fault
abbrev pub faulty : List (Option LineFault) → ℕ
faulty causes = length (filter is_some causes)

abbrev pub count_line : ℕ → List ℕ
count_line n = codes "faults " ++ (decimal n ++ codes "\n")

-- a line for each line of the source that is at fault, and how many they are
abbrev pub source_text : List ℕ → List ℕ
source_text text = lines_text (causes_of text) 0 (lines_of text) ++ count_line (faulty (causes_of text))

-- none is at fault exactly where the outcome is a program
abbrev pub CountsNone : List ℕ → Type 0
CountsNone text = (outcome : Outcome) → Assembled text outcome → (faulty (causes_of text) == 0) ≡ is_none (fault_of outcome)
