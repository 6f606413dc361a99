use Rattle.dk_chain.proofs.SoonestMet.{soonest_is_met}
use Rattle.dk_chain.proofs.earliest.not_before_met_law.Goals as goal

pub returns : goal.returns
returns c = soonest_is_met
