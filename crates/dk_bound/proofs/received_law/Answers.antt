use Rattle.dk_bound.proofs.Laws.{received}
use Rattle.dk_bound.proofs.received_law.Goals as goal

pub returns : goal.returns
returns c = received
