use Rattle.std.proofs.Common.{subst}
use Rattle.dk_config.specs.Configuration.{Configuration}
use Rattle.dk_review.specs.Reviews.{IsTold}
use Rattle.dk_review.proofs.telling.told_of.Goals as goal

pub returns : goal.returns
returns c = subst (λ (k : Configuration). IsTold k c.in_ok-told.told) c.in_ok-layout.ensures c.in_ok-told.ensures
