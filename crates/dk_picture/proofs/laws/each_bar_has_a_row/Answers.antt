use Rattle.dk_picture.proofs.Covered.{range_covered}
use Rattle.dk_picture.proofs.laws.each_bar_has_a_row.Goals as goal

pub returns : goal.returns
returns c = range_covered
