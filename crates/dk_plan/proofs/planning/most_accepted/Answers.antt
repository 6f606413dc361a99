use Rattle.dk_plan.proofs.Names.{◌≡◌, length, rules}
use Rattle.dk_plan.proofs.Accepting.{fits_step, all_fit}
use Rattle.dk_plan.proofs.planning.most_accepted.Goals as goal

pub loop-level-preserved : goal.loop-level-preserved
loop-level-preserved c =
    fits_step c.args.config.now c.args.process c.loop-level.level c.loop-level.most c.loop-level.invariant c.in_ok-most_at.field-0 c.min-most.result c.in_ok-most_at.ensures.limit c.min-most.ensures

pub returns-clause-limit : goal.returns-clause-limit
returns-clause-limit c =
    let all : c.loop-level.level ≡ length c.args.config.now.levels = search rules in
    all_fit c.args.config.now c.args.process c.loop-level.level c.loop-level.most c.loop-level.invariant all
