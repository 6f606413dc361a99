use Rattle.dk_mutex.proofs.Freeing.{lefts-past}
use Rattle.dk_mutex.proofs.laws.lefts_are_the_pasts.Goals as goal

pub returns : goal.returns
returns c = lefts-past
