use Rattle.std.proofs.Common.{refl}
use Rattle.dk_needs_check.specs.declared.row.Measure.{Measure}
use Rattle.dk_needs_check.specs.Meaning.{HasRelease}
use Rattle.dk_needs_check.proofs.Told.{at_least}
use Rattle.dk_needs_check.proofs.bounds.release_bound.Goals as goal

pub returns : goal.returns
returns c =
    at_least (HasRelease c.args.config.now c.args.level) Measure.Release c.greatest_release.result c.args.wanted c.bound.result refl
    c.greatest_release.ensures.greatest c.bound.ensures
