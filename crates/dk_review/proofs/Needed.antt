-- What needs come to.
use Rattle.std.specs.Prelude.{IfOk, Result, Ok, Err}
use Rattle.dk_config.specs.Configuration.{Configuration}
use Rattle.dk_needs.specs.Wanted.{Wanted}
use Rattle.dk_needs_check.specs.Unknown.{IsCheck}
use Rattle.dk_needs_check.specs.declared.unknown.Checking.{Checking}
use Rattle.dk_review.specs.Needs.{IsDecided, IsTold}
use Rattle.dk_review.specs.declared.needing.NeedsTold.{NeedsTold}

pub decided : {E : Type 0} (c : Configuration) (needs : Wanted) (found : Checking) (r : Result NeedsTold E) → IsCheck c needs.rows found
    → IfOk r (IsTold c needs found) → IfOk r (IsDecided c needs)
decided c needs found (Ok t) is told = record { found = found; is = is; told = told }
decided c needs found (Err e) is told = tt
