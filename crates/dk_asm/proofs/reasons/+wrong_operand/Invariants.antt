use Rattle.std.proofs.Common.{length}
use Rattle.dk_asm.proofs.reasons.+wrong_operand.Given as goal

abbrev pub decreases-wrong_operand : goal.decreases-wrong_operand
decreases-wrong_operand l = length l.kinds.now
