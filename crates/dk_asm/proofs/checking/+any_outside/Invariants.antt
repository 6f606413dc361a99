use Rattle.std.proofs.Common.{length}
use Rattle.dk_asm.proofs.checking.+any_outside.Given as goal

abbrev pub decreases-any_outside : goal.decreases-any_outside
decreases-any_outside l = length l.operands.now
