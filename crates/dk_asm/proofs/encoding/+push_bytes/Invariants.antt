use Rattle.std.proofs.Common.{length}
use Rattle.dk_asm.proofs.encoding.+push_bytes.Given as goal

abbrev pub decreases-push_bytes : goal.decreases-push_bytes
decreases-push_bytes l = length l.operands.now
