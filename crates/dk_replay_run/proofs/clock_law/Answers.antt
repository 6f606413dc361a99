use Rattle.dk_replay_run.proofs.Clock.{no-tick}
use Rattle.dk_replay_run.proofs.clock_law.Goals as goal

pub returns : goal.returns
returns c = no-tick
