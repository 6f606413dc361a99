use Rattle.dk_picture.proofs.Names.{groups, rows_of}
use Rattle.dk_picture.proofs.Drawn.{marks_drawn}
use Rattle.dk_picture.proofs.laws.marks_are_the_events.Goals as goal

pub returns : goal.returns
returns c = λ h from to es. marks_drawn h (rows_of h (groups from to es)) from to es
