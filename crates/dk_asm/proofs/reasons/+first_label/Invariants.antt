use Rattle.std.proofs.Common.{length}
use Rattle.dk_asm.proofs.reasons.+first_label.Given as goal

abbrev pub decreases-first_label : goal.decreases-first_label
decreases-first_label l = length l.operands.now
