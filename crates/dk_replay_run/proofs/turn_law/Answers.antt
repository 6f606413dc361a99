use Rattle.dk_replay_run.proofs.TimedTurns.{ready}
use Rattle.dk_replay_run.proofs.turn_law.Goals as goal

pub returns : goal.returns
returns c config p k times limits checked accepted known long room = ready config p times limits checked accepted known long room k
