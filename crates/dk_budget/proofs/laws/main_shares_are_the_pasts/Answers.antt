use Rattle.dk_budget.proofs.Sharing.{main-same}
use Rattle.dk_budget.proofs.laws.main_shares_are_the_pasts.Goals as goal

pub returns : goal.returns
returns c = main-same
