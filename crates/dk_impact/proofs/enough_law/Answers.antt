use Rattle.dk_impact.proofs.Wants.{enough-always}
use Rattle.dk_impact.proofs.enough_law.Goals as goal

pub returns : goal.returns
returns c config p program checked accepted keeps none never = enough-always config p program c.windows_law.ensures checked accepted keeps none never
