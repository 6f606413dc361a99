use Rattle.dk_mutex.proofs.Recounts.{recount-start}
use Rattle.dk_mutex.proofs.laws.start_is_the_recount.Goals as goal

pub returns : goal.returns
returns c = recount-start
