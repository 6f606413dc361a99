use Rattle.dk_limits.proofs.RunReadable.{can_be_read}
use Rattle.dk_limits.proofs.laws.run_can_be_read.Goals as goal

pub returns : goal.returns
returns c = can_be_read
