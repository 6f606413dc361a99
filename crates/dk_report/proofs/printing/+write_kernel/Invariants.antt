use Rattle.std.proofs.Common.{length}
use Rattle.dk_report.proofs.printing.+write_kernel.Given as goal

abbrev pub decreases-write_kernel : goal.decreases-write_kernel
decreases-write_kernel g l = length l.ticks.now
