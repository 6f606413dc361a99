use Rattle.dk_bound.proofs.Laws.{denial_tight}
use Rattle.dk_bound.proofs.denial_law.Goals as goal

pub returns : goal.returns
returns c = denial_tight
