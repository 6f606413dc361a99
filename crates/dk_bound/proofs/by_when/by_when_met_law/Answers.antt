use Rattle.dk_bound.proofs.BoundMet.{bound_is_met}
use Rattle.dk_bound.proofs.by_when.by_when_met_law.Goals as goal

pub returns : goal.returns
returns c = bound_is_met
