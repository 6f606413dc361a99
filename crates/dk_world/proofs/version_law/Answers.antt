use Rattle.dk_world.proofs.Versions.{world_same}
use Rattle.dk_world.proofs.version_law.Goals as goal

pub returns : goal.returns
returns c version config programs n = world_same version config programs n
