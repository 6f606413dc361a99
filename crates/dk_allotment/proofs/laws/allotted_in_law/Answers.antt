use Rattle.dk_allotment.proofs.Enough.{allotted_in}
use Rattle.dk_allotment.proofs.laws.allotted_in_law.Goals as goal

pub returns : goal.returns
returns c = allotted_in
