use Rattle.dk_holds.proofs.Telling.{all, held}
use Rattle.dk_holds.proofs.laws.held_since_its_lock.Goals as goal

pub returns-clause-held : goal.returns-clause-held
returns-clause-held c = held

pub returns-clause-all : goal.returns-clause-all
returns-clause-all c = all
