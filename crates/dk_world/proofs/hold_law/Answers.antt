use Rattle.dk_world.proofs.Broken.{holds-break}
use Rattle.dk_world.proofs.hold_law.Goals as goal

pub returns : goal.returns
returns c = holds-break
