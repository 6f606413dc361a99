use Rattle.dk_chain.proofs.Exactly.{reacts_no_sooner}
use Rattle.dk_chain.proofs.earliest.no_shorter_law.Goals as goal

pub returns : goal.returns
returns c = reacts_no_sooner
