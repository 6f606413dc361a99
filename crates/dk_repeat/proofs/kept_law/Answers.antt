use Rattle.dk_repeat.proofs.Kept.{threads-kept}
use Rattle.dk_repeat.proofs.kept_law.Goals as goal

pub returns : goal.returns
returns c config e past keeps p here = threads-kept config e past keeps p
