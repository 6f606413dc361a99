use Rattle.dk_replay.proofs.Places.{waits_at_once}
use Rattle.dk_replay.proofs.laws.wait_law.Goals as goal

pub returns : goal.returns
returns c = waits_at_once
