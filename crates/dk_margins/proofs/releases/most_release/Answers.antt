use Rattle.dk_margins.proofs.Names.{◌≡◌, length, rules, ReleaseFits}
use Rattle.dk_margins.proofs.Levels.{fits_step, all_fit}
use Rattle.dk_margins.proofs.releases.most_release.Goals as goal

pub loop-at-preserved : goal.loop-at-preserved
loop-at-preserved c =
    fits_step (ReleaseFits c.args.config.now c.args.level) c.loop-at.at c.loop-at.most c.in_ok-release_room.field-0 c.min-most.result c.loop-at.invariant
    c.in_ok-release_room.ensures.limit c.min-most.ensures

pub returns-clause-limit : goal.returns-clause-limit
returns-clause-limit c =
    let all : c.loop-at.at ≡ length c.args.config.now.levels = search rules in
    all_fit (ReleaseFits c.args.config.now c.args.level) c.loop-at.at c.loop-at.most (length c.args.config.now.levels) c.loop-at.invariant all
