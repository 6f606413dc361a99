use Rattle.dk_chain.proofs.InOrder.{over_in_time}
use Rattle.dk_chain.proofs.in_order.over_in_time_law.Goals as goal

pub returns : goal.returns
returns c = over_in_time
