use Rattle.dk_replay_run.proofs.TimedTurns.{entries}
use Rattle.dk_replay_run.proofs.jobs_law.Goals as goal

pub returns : goal.returns
returns c config p k times limits checked accepted known long room = entries config p times limits checked accepted known long room k
