use Rattle.dk_bound.proofs.Laws.{holders_stand}
use Rattle.dk_bound.proofs.holders_law.Goals as goal

pub returns : goal.returns
returns c = holders_stand
