use Rattle.dk_bound.proofs.LevelByWhen.{all_by_when}
use Rattle.dk_bound.proofs.by_when.all_by_when_law.Goals as goal

pub returns : goal.returns
returns c = all_by_when
