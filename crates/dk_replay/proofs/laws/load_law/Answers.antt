use Rattle.dk_replay.proofs.Places.{loads_its_number}
use Rattle.dk_replay.proofs.laws.load_law.Goals as goal

pub returns : goal.returns
returns c = loads_its_number
