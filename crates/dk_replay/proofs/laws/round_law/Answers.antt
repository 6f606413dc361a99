use Rattle.dk_replay.proofs.Rounds.{round_takes}
use Rattle.dk_replay.proofs.laws.round_law.Goals as goal

pub returns : goal.returns
returns c = round_takes
