use Rattle.std.proofs.Common.{length}
use Rattle.dk_asm.proofs.operands.+operands_behind.Given as goal

abbrev pub decreases-operands_behind : goal.decreases-operands_behind
decreases-operands_behind l = length l.kinds.now
