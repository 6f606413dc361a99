use Rattle.std.proofs.Common.{length}
use Rattle.dk_report.proofs.printing.+write_processes.Given as goal

abbrev pub decreases-write_processes : goal.decreases-write_processes
decreases-write_processes g l = length l.totals.now
