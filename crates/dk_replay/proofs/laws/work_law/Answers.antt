use Rattle.dk_replay.proofs.Work.{work_takes}
use Rattle.dk_replay.proofs.laws.work_law.Goals as goal

pub returns : goal.returns
returns c = work_takes
