use Rattle.dk_mutex.proofs.Refusing.{lock-past, unlock-past}
use Rattle.dk_mutex.proofs.laws.refusals_are_the_pasts.Goals as goal

pub returns : goal.returns
returns c = record { lock = lock-past; unlock = unlock-past }
