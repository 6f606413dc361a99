use Rattle.dk_replay.proofs.Granted.{steps_take}
use Rattle.dk_replay.proofs.laws.job_law.Goals as goal

pub returns : goal.returns
returns c = steps_take
