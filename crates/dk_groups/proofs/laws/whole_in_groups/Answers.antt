use Rattle.dk_groups.proofs.Slices.{whole_slice}
use Rattle.dk_groups.proofs.laws.whole_in_groups.Goals as goal

pub returns : goal.returns
returns c = whole_slice
