use Rattle.std.proofs.Common.{refl, Some}
use Rattle.dk_needs_check.specs.declared.row.Measure.{Measure}
use Rattle.dk_needs_check.specs.Meaning.{HasSpare}
use Rattle.dk_needs_check.proofs.Told.{at_least, left}
use Rattle.dk_needs_check.proofs.bounds.spare_bound.Goals as goal

pub returns : goal.returns
returns c =
    at_least (HasSpare c.args.config.now c.args.level) Measure.Spare (Some c.spare.result) c.args.wanted c.bound.result refl
    (left c.args.config.now c.args.level c.spare.result c.spare.ensures) c.bound.ensures
