use Rattle.dk_margins.proofs.Names.{◌≡◌, ◌+◌, ◌-◌, arith, period, level_demand, level_blocking, with_release, nat_tests}
use Rattle.dk_margins.proofs.ReleaseRooms.{none_fits, any_fits, release_fits}
use Rattle.dk_margins.proofs.releases.release_room.Goals as goal

pub returns-then-needs-window-clause-none : goal.returns-then-needs-window-clause-none
returns-then-needs-window-clause-none c = grind (arith, nat_tests, none_fits)

pub returns-then-at-level-clause-limit : goal.returns-then-at-level-clause-limit
returns-then-at-level-clause-limit c =
    let config = c.args.config.now in
    let room = c.level_row-window.result.period - c.needs_without-needs.result in
    let left : room + (level_demand (with_release config c.args.level 0) c.args.at + level_blocking config c.args.at) ≡ period config c.args.at = omega arith in
    λ r few. (λ fits. few, λ within. any_fits config c.args.level c.requires.level c.args.at room left c.if-at-level.true r)

pub returns-clause-limit : goal.returns-clause-limit
returns-clause-limit c = grind (arith, nat_tests, release_fits)
