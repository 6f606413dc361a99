use Rattle.dk_allotment.proofs.Planned.{alone_is_planned}
use Rattle.dk_allotment.proofs.laws.planned_law.Goals as goal

pub returns : goal.returns
returns c = alone_is_planned
