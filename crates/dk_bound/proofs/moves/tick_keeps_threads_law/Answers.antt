use Rattle.dk_bound.proofs.TickMoves.{tick_keeps_threads}
use Rattle.dk_bound.proofs.moves.tick_keeps_threads_law.Goals as goal

pub returns : goal.returns
returns c = tick_keeps_threads
