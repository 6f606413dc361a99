use Rattle.dk_mutex.proofs.Holding.{recount-lock, recount-unlock}
use Rattle.dk_mutex.proofs.laws.call_keeps_the_recount.Goals as goal

pub returns : goal.returns
returns c = record { lock = recount-lock; unlock = recount-unlock }
