use Rattle.dk_margins.proofs.Names.{nat_tests, arith}
use Rattle.dk_margins.proofs.SwitchRooms.{one_more}
use Rattle.dk_margins.proofs.switches.most_switch.Goals as goal

pub loop-row-preserved : goal.loop-row-preserved
loop-row-preserved c = grind (arith, nat_tests, one_more)
