use Rattle.dk_bound.proofs.ByWhen.{by_when}
use Rattle.dk_bound.proofs.by_when.by_when_law.Goals as goal

pub returns : goal.returns
returns c = by_when
