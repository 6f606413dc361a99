use Rattle.std.proofs.Common.{refl}
use Rattle.dk_needs_check.specs.declared.row.Measure.{Measure}
use Rattle.dk_needs_check.specs.Meaning.{HasHold}
use Rattle.dk_needs_check.proofs.Told.{at_least}
use Rattle.dk_needs_check.proofs.bounds.hold_bound.Goals as goal

pub returns : goal.returns
returns c =
    at_least (HasHold c.args.config.now c.args.mutex) Measure.Hold c.greatest_hold.result c.args.wanted c.bound.result refl
    c.greatest_hold.ensures.greatest c.bound.ensures
