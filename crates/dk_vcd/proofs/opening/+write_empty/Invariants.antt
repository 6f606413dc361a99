use Rattle.std.proofs.Common.{length}
use Rattle.dk_vcd.proofs.opening.+write_empty.Given as goal

abbrev pub decreases-write_empty : goal.decreases-write_empty
decreases-write_empty g l = length l.lines.now
