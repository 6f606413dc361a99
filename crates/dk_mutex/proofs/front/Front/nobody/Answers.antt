use Rattle.std.proofs.Common.{refl}
use Rattle.dk_mutex.proofs.Fronts.{front-none}
use Rattle.dk_mutex.proofs.front.Front.nobody.Goals as goal

pub returns : goal.returns
returns c = λ rows none. front-none _ rows refl none
