use Rattle.dk_chain.proofs.Leastwise.{takes_at_least}
use Rattle.dk_chain.proofs.earliest.chain_takes_law.Goals as goal

pub returns : goal.returns
returns c = takes_at_least
