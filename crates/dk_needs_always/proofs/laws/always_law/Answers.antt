use Rattle.dk_needs_always.proofs.Sounds.{sound}
use Rattle.dk_needs_always.proofs.laws.always_law.Goals as goal

pub returns : goal.returns
returns c = sound
