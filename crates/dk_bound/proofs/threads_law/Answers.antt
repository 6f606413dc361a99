use Rattle.dk_bound.proofs.Standing.{threads_placed}
use Rattle.dk_bound.proofs.threads_law.Goals as goal

pub returns : goal.returns
returns c = threads_placed
