use Rattle.dk_margins.proofs.Names.{slice_get-get_or, nat_tests, arith}
use Rattle.dk_margins.proofs.HoldRooms.{blocking-more}
use Rattle.dk_margins.proofs.holds.delays.Goals as goal

pub returns : goal.returns
returns c = grind (arith, nat_tests, slice_get-get_or, blocking-more)
