use Rattle.std.proofs.Common.{length}
use Rattle.dk_needs_check.proofs.asking.+most_asked.Given as goal

abbrev pub decreases-most_asked : goal.decreases-most_asked
decreases-most_asked l = length l.needs.now
