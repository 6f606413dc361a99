use Rattle.dk_replay.proofs.Places.{work_is_done}
use Rattle.dk_replay.proofs.laws.done_law.Goals as goal

pub returns : goal.returns
returns c = work_is_done
