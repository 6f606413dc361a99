use Rattle.dk_chain.proofs.Chain.{reacts_in_time}
use Rattle.dk_chain.proofs.reaction_law.Goals as goal

pub returns : goal.returns
returns c = reacts_in_time
