use Rattle.dk_bound.proofs.Standing.{chosen_holds}
use Rattle.dk_bound.proofs.chosen_law.Goals as goal

pub returns : goal.returns
returns c = chosen_holds
