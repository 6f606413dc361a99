use Rattle.dk_chain.proofs.Soonest.{not_before}
use Rattle.dk_chain.proofs.earliest.not_before_law.Goals as goal

pub returns : goal.returns
returns c = not_before
