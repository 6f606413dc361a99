use Rattle.dk_world.proofs.Broken.{creates-leave}
use Rattle.dk_world.proofs.create_law.Goals as goal

pub returns : goal.returns
returns c = creates-leave
