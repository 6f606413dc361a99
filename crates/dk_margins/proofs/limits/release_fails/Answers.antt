use Rattle.dk_margins.proofs.Names.{◌<◌, ◌≡◌, ◌∙◌, sym, arith, length, rules, rows_with_release, with_release}
use Rattle.dk_margins.proofs.ReleaseRules.{length-with}
use Rattle.dk_margins.proofs.Failing.{fails_here, none_fails}
use Rattle.dk_margins.proofs.limits.release_fails.Goals as goal

pub returns-then-not-release_fits : goal.returns-then-not-release_fits
returns-then-not-release_fits c =
    let inside : c.loop-at.at < length c.args.config.now.levels = search rules in
    let long = length-with c.args.release c.args.config.now.levels c.args.level in
    let within : c.loop-at.at < length (rows_with_release c.args.config.now.levels c.args.level c.args.release) = omega (arith, inside, long) in
    fails_here (with_release c.args.config.now c.args.level c.args.release) c.loop-at.at c.loop-at.invariant within (c.release_fits.ensures.fails (search rules))

pub returns : goal.returns
returns c =
    let counted : c.loop-at.at ≡ length c.args.config.now.levels = search rules in
    let long = length-with c.args.release c.args.config.now.levels c.args.level in
    let all : c.loop-at.at ≡ length (rows_with_release c.args.config.now.levels c.args.level c.args.release) = counted ∙ sym long in
    none_fails (with_release c.args.config.now c.args.level c.args.release) c.loop-at.at c.loop-at.invariant all
