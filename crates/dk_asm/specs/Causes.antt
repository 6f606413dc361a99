-- The cause of each line of a source.
use Rattle.std.specs.Prelude.{ℕ, suc, ◌≡◌, List, [], ◌∷◌, map, Option, Some, None}
use Rattle.dk_asm.specs.declared.fault.LineFault.{LineFault}
use Rattle.dk_asm.specs.Reading.{read_line}
use Rattle.dk_asm.specs.Source.{Line, lines_of, cause_at, Outcome, Assembled}

-- the causes of lines of a source, the first of which has this place in it
abbrev pub causes_from : List Line → ℕ → List Line → List (Option LineFault)
causes_from source i [] = []
causes_from source i (line ∷ lines) = cause_at source i ∷ causes_from source (suc i) lines

-- the cause of each line of a text, none where it isn't at fault
abbrev pub causes_of : List ℕ → List (Option LineFault)
causes_of text = causes_from (map read_line (lines_of text)) 0 (map read_line (lines_of text))

-- the first line with a cause, the lines being numbered from n on
abbrev pub first_cause : ℕ → List (Option LineFault) → Option (ℕ × LineFault)
first_cause n [] = None
first_cause n (None ∷ causes) = first_cause (suc n) causes
first_cause n (Some cause ∷ causes) = Some (n, cause)

-- the line at fault that an outcome tells; a program tells none
abbrev pub fault_of : Outcome → Option (ℕ × LineFault)
fault_of (Outcome.program code) = None
fault_of (Outcome.fault n cause) = Some (n, cause)

-- The first line with a cause is the one that the outcome tells, and where that is a program no line has a cause.
abbrev pub TellsOutcome : List ℕ → Type 0
TellsOutcome text = (outcome : Outcome) → Assembled text outcome → first_cause 1 (causes_of text) ≡ fault_of outcome
