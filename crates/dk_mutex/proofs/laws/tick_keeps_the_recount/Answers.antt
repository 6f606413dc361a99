use Rattle.dk_mutex.proofs.Recounts.{recount-tick, recount-nobody}
use Rattle.dk_mutex.proofs.laws.tick_keeps_the_recount.Goals as goal

pub returns : goal.returns
returns c = record { thread = recount-tick; nobody = recount-nobody }
