-- Why there is no page with a ledger.
use Rattle.std.proofs.Common.{◌≡◌, ℕ, List, subst, sym}
use Rattle.std.specs.Prelude.{IfErr, Option, Result, Ok, Err}
use Rattle.dk_audit.specs.Lines.{IsFoundIn}
use Rattle.dk_audit.specs.declared.finding.Finding.{Finding}
use Rattle.dk_config.specs.Configuration.{Configuration}
use Rattle.dk_loader.specs.Reading.{reading}
use Rattle.dk_review.specs.Reviews.{IsOfOther}
use Rattle.dk_review.specs.Runs.{IsFaultOf}
use Rattle.dk_review.specs.declared.drawing.Range.{Range}
use Rattle.dk_review.specs.declared.fault.RunFault.{RunFault}
use Rattle.dk_review.specs.declared.fault.RunFault.TheVariants as why

pub of_other : {T : Type 0} (document bytes : List ℕ) (range : Option Range) (c : Configuration) (r : Result T RunFault)
    → reading document ≡ Ok c → IfErr r (IsFaultOf (IsFoundIn c bytes Finding.Header) range bytes)
    → IfErr r (IsFaultOf (IsOfOther document bytes) range bytes)
of_other document bytes range c (Ok t) read fault = tt
of_other document bytes range c (Err (why.Line n)) read fault = fault
of_other document bytes range c (Err (why.Ends n)) read fault = fault
of_other document bytes range c (Err why.Other) read fault = (c, read, fault)
of_other document bytes range c (Err why.NoMemory) read fault = tt

pub of_memory : {T : Type 0} (IsOther : Type 0) (range : Option Range) (bytes : List ℕ) (r : Result T RunFault)
    → IfErr r (λ e. e ≡ why.NoMemory) → IfErr r (IsFaultOf IsOther range bytes)
of_memory IsOther range bytes (Ok t) is = tt
of_memory IsOther range bytes (Err e) is = subst (IsFaultOf IsOther range bytes) (sym is) tt

-- a fault other than that of another configuration
fault_of_none : (IsOther : Type 0) (range : Option Range) (bytes : List ℕ) (e : RunFault) → IsFaultOf ⊥ range bytes e
    → IsFaultOf IsOther range bytes e
fault_of_none IsOther range bytes (why.Line n) fault = fault
fault_of_none IsOther range bytes (why.Ends n) fault = fault
fault_of_none IsOther range bytes why.Other fault = absurd fault
fault_of_none IsOther range bytes why.NoMemory fault = tt

pub of_none : {T : Type 0} (IsOther : Type 0) (range : Option Range) (bytes : List ℕ) (r : Result T RunFault)
    → IfErr r (IsFaultOf ⊥ range bytes) → IfErr r (IsFaultOf IsOther range bytes)
of_none IsOther range bytes (Ok t) fault = tt
of_none IsOther range bytes (Err e) fault = fault_of_none IsOther range bytes e fault
