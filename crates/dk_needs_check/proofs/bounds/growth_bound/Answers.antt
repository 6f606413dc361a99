use Rattle.std.proofs.Common.{refl}
use Rattle.dk_needs_check.specs.declared.row.Measure.{Measure}
use Rattle.dk_needs_check.specs.Meaning.{HasGrowth}
use Rattle.dk_needs_check.proofs.Told.{at_least}
use Rattle.dk_needs_check.proofs.bounds.growth_bound.Goals as goal

pub returns : goal.returns
returns c =
    at_least (HasGrowth c.args.config.now) Measure.Growth c.greatest_growth.result c.args.wanted c.bound.result refl
    c.greatest_growth.ensures.greatest c.bound.ensures
