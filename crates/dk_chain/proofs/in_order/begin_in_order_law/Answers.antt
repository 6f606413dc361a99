use Rattle.dk_chain.proofs.InOrder.{begins_in_order}
use Rattle.dk_chain.proofs.in_order.begin_in_order_law.Goals as goal

pub returns : goal.returns
returns c = begins_in_order
