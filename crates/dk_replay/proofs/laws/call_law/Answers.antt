use Rattle.dk_replay.proofs.Calls.{call_takes}
use Rattle.dk_replay.proofs.laws.call_law.Goals as goal

pub returns : goal.returns
returns c = call_takes
