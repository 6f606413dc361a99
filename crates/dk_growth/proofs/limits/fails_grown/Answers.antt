use Rattle.std.proofs.Common.{◌<◌, ◌≡◌, length, rules}
use Rattle.dk_margins.proofs.Failing.{fails_here, none_fails}
use Rattle.dk_growth.specs.Growth.{grown}
use Rattle.dk_growth.proofs.limits.fails_grown.Goals as goal

pub returns-then-not-fits_grown : goal.returns-then-not-fits_grown
returns-then-not-fits_grown c =
    let inside : c.loop-level.level < length c.args.config.now.levels = search rules in
    fails_here (grown c.args.config.now c.args.percent) c.loop-level.level c.loop-level.invariant inside (c.fits_grown.ensures.fails (search rules))

pub returns : goal.returns
returns c =
    let all : c.loop-level.level ≡ length c.args.config.now.levels = search rules in
    none_fails (grown c.args.config.now c.args.percent) c.loop-level.level c.loop-level.invariant all
