use Rattle.dk_bound.proofs.Standing.{askers_there}
use Rattle.dk_bound.proofs.standing_law.Goals as goal

pub returns : goal.returns
returns c = askers_there
