use Rattle.dk_margins.proofs.Names.{◌≡◌, length, rules, HoldFits}
use Rattle.dk_margins.proofs.Levels.{fits_step, all_fit}
use Rattle.dk_margins.proofs.holds.most_hold.Goals as goal

pub loop-level-preserved : goal.loop-level-preserved
loop-level-preserved c =
    fits_step (HoldFits c.args.config.now c.args.mutex) c.loop-level.level c.loop-level.most c.in_ok-hold_room.field-0 c.min-most.result c.loop-level.invariant
    c.in_ok-hold_room.ensures.limit c.min-most.ensures

pub returns-clause-limit : goal.returns-clause-limit
returns-clause-limit c =
    let all : c.loop-level.level ≡ length c.args.config.now.levels = search rules in
    all_fit (HoldFits c.args.config.now c.args.mutex) c.loop-level.level c.loop-level.most (length c.args.config.now.levels) c.loop-level.invariant all
