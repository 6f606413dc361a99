-- Why there is no page with a ledger.
use Rattle.std.proofs.Common.{◌≡◌, ℕ, List, subst}
use Rattle.std.specs.Prelude.{IfErr, Option, Result, Err}
use Rattle.dk_review.specs.Runs.{IsFaultOf}
use Rattle.dk_review.specs.declared.drawing.Range.{Range}
use Rattle.dk_review.specs.declared.fault.RunFault.{RunFault}

pub fault_is : {T : Type 0} (IsOther : Type 0) (range : Option Range) (bytes : List ℕ) (r : Result T RunFault) (e f : RunFault)
    → IfErr r (IsFaultOf IsOther range bytes) → r ≡ Err e → e ≡ f → IsFaultOf IsOther range bytes f
fault_is IsOther range bytes r e f told is same =
    subst (IsFaultOf IsOther range bytes) same (subst (λ x. IfErr x (IsFaultOf IsOther range bytes)) is told)
