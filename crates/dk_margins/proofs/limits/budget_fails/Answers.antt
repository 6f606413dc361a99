use Rattle.dk_margins.proofs.Names.{◌<◌, ◌≡◌, length, rules, with_budget}
use Rattle.dk_margins.proofs.Failing.{fails_here, none_fails}
use Rattle.dk_margins.proofs.limits.budget_fails.Goals as goal

pub returns-then-not-budget_fits : goal.returns-then-not-budget_fits
returns-then-not-budget_fits c =
    let within : c.loop-level.level < length c.args.config.now.levels = search rules in
    fails_here (with_budget c.args.config.now c.args.process c.args.budget) c.loop-level.level c.loop-level.invariant within (c.budget_fits.ensures.fails (search rules))

pub returns : goal.returns
returns c =
    let all : c.loop-level.level ≡ length c.args.config.now.levels = search rules in
    none_fails (with_budget c.args.config.now c.args.process c.args.budget) c.loop-level.level c.loop-level.invariant all
