use Rattle.dk_budget.proofs.Futures.{child-same}
use Rattle.dk_budget.proofs.laws.child_shares_are_the_pasts.Goals as goal

pub returns : goal.returns
returns c = child-same
