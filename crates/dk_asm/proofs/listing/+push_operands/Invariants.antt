use Rattle.std.proofs.Common.{length}
use Rattle.dk_asm.proofs.listing.+push_operands.Given as goal

abbrev pub decreases-push_operands : goal.decreases-push_operands
decreases-push_operands l = length l.kinds.now
