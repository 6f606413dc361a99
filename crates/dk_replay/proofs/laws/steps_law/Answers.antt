use Rattle.dk_replay.proofs.Places.{has_steps}
use Rattle.dk_replay.proofs.laws.steps_law.Goals as goal

pub returns : goal.returns
returns c = has_steps
