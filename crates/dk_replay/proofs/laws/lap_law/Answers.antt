use Rattle.dk_replay.proofs.Laps.{lap_takes}
use Rattle.dk_replay.proofs.laws.lap_law.Goals as goal

pub returns : goal.returns
returns c = lap_takes
