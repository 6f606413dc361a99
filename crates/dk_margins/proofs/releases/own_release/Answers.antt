use Rattle.dk_margins.proofs.Names.{nat_tests, arith}
use Rattle.dk_margins.proofs.ReleaseRooms.{own-before, own-from}
use Rattle.dk_margins.proofs.releases.own_release.Goals as goal

pub returns-then-at-level : goal.returns-then-at-level
returns-then-at-level c = own-before c.args.config.now c.args.level c.requires.level c.args.at c.if-at-level.true

pub returns : goal.returns
returns c = grind (arith, nat_tests, own-from)
