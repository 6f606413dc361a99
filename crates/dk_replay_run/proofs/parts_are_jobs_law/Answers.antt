use Rattle.dk_replay_run.proofs.Joined.{locks-there, parts-whole, windows-are}
use Rattle.dk_replay_run.proofs.parts_are_jobs_law.Goals as goal

pub returns-clause-windows : goal.returns-clause-windows
returns-clause-windows c = windows-are

pub returns-clause-whole : goal.returns-clause-whole
returns-clause-whole c = parts-whole

pub returns-clause-locks : goal.returns-clause-locks
returns-clause-locks c = locks-there
