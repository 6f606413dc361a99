use Rattle.std.proofs.Common.{length}
use Rattle.dk_vcd.proofs.opening.+write_processes.Given as goal

abbrev pub decreases-write_processes : goal.decreases-write_processes
decreases-write_processes g l = length l.lines.now
