use Rattle.dk_impact.proofs.Unreached.{same-run}
use Rattle.dk_impact.proofs.unreached_law.Goals as goal

pub returns : goal.returns
returns c config programs struck p out never n = same-run config programs struck p out never n
