use Rattle.dk_threads.proofs.Recounting.{charged}
use Rattle.dk_threads.proofs.laws.tick_keeps_the_recount.Goals as goal

pub returns : goal.returns
returns c = λ k e past table is. charged k e past table is
