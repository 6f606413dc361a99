use Rattle.dk_margins.proofs.Names.{◌<◌, ◌≡◌, length, rules, with_hold}
use Rattle.dk_margins.proofs.Failing.{fails_here, none_fails}
use Rattle.dk_margins.proofs.limits.hold_fails.Goals as goal

pub returns-then-not-hold_fits : goal.returns-then-not-hold_fits
returns-then-not-hold_fits c =
    let within : c.loop-level.level < length c.args.config.now.levels = search rules in
    fails_here (with_hold c.args.config.now c.args.mutex c.args.hold) c.loop-level.level c.loop-level.invariant within (c.hold_fits.ensures.fails (search rules))

pub returns : goal.returns
returns c =
    let all : c.loop-level.level ≡ length c.args.config.now.levels = search rules in
    none_fails (with_hold c.args.config.now c.args.mutex c.args.hold) c.loop-level.level c.loop-level.invariant all
