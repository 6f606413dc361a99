use Rattle.dk_picture.proofs.Names.{groups, rows_of}
use Rattle.dk_picture.proofs.Drawn.{bars_drawn}
use Rattle.dk_picture.proofs.laws.bars_are_the_ticks.Goals as goal

pub returns : goal.returns
returns c = λ h from to es begins within. bars_drawn h (rows_of h (groups from to es)) from to es begins within
