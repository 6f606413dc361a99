-- No line is at fault exactly where none is the first.
use Rattle.std.proofs.Common.{◌≡◌, ◌∙◌, ap, refl, ℕ, suc, List, [], ◌∷◌, arith, Option, Some, None}
use Rattle.std.specs.Prelude.{◌==◌, is_none}
use Rattle.std.proofs.lemmas.Bool.Decides.{nat_tests}
use Rattle.dk_asm.specs.declared.fault.LineFault.{LineFault}
use Rattle.dk_asm.specs.Causes.{TellsOutcome, first_cause, causes_of, fault_of}
use Rattle.dk_asm.specs.Source.{Outcome, Assembled}
use Rattle.dk_source_report.specs.Report.{faulty}

none_first : (n : ℕ) (causes : List (Option LineFault)) → (faulty causes == 0) ≡ is_none (first_cause n causes)
none_first n [] = refl
none_first n (None ∷ causes) = none_first (suc n) causes
none_first n (Some cause ∷ causes) = grind (arith, nat_tests)

pub counts_none : (text : List ℕ) → TellsOutcome text → (outcome : Outcome) → Assembled text outcome → (faulty (causes_of text) == 0) ≡ is_none (fault_of outcome)
counts_none text tells outcome is = none_first 1 (causes_of text) ∙ ap is_none (tells outcome is)
