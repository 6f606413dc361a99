use Rattle.std.proofs.Common.{length}
use Rattle.dk_asm.proofs.checking.+any_unplaced.Given as goal

abbrev pub decreases-any_unplaced : goal.decreases-any_unplaced
decreases-any_unplaced l = length l.operands.now
