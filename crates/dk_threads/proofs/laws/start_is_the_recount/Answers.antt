use Rattle.dk_threads.proofs.Recounting.{IsOpen-first}
use Rattle.dk_threads.proofs.laws.start_is_the_recount.Goals as goal

pub returns : goal.returns
returns c = λ k. IsOpen-first k
