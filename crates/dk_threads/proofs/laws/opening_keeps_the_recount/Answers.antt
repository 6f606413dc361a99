use Rattle.dk_threads.proofs.Recounting.{next-open}
use Rattle.dk_threads.proofs.laws.opening_keeps_the_recount.Goals as goal

pub returns : goal.returns
returns c = λ k e past table all is. next-open k e past table all is
