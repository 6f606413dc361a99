use Rattle.dk_budget.proofs.Futures.{futures-same}
use Rattle.dk_budget.proofs.laws.future_shares_are_the_pasts.Goals as goal

pub returns : goal.returns
returns c = futures-same
