use Rattle.dk_margins.proofs.Names.{◌<◌, ◌+◌, arith, period, level_demand, level_blocking, with_hold}
use Rattle.dk_margins.proofs.HoldRooms.{none_fits}
use Rattle.dk_margins.proofs.holds.hold_room.Goals as goal

pub returns-then-demand-others_delay-clause-none : goal.returns-then-demand-others_delay-clause-none
returns-then-demand-others_delay-clause-none c =
    let short : period c.args.config.now c.args.level < level_demand c.args.config.now c.args.level + level_blocking (with_hold c.args.config.now c.args.mutex 0) c.args.level = omega arith in
    none_fits c.args.config.now c.args.mutex c.args.level c.requires.mutex short
