use Rattle.std.proofs.Common.{length}
use Rattle.dk_warnings.proofs.mutexes.+fastest_of.Given as goal

abbrev pub decreases-fastest_of : goal.decreases-fastest_of
decreases-fastest_of l = length l.processes.now
