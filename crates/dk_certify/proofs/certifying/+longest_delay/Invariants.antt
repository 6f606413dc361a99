use Rattle.std.proofs.Common.{length}
use Rattle.dk_certify.proofs.certifying.+longest_delay.Given as goal

abbrev pub decreases-longest_delay : goal.decreases-longest_delay
decreases-longest_delay l = length l.mutexes.now
