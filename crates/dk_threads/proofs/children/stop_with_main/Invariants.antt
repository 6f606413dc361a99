use Rattle.dk_threads.proofs.Names.{◌≡◌, stopped_with_main}
use Rattle.dk_threads.proofs.Turns.{turned}
use Rattle.dk_threads.proofs.children.stop_with_main.Given as goal

abbrev pub invariant-loop-turn : goal.invariant-loop-turn
invariant-loop-turn l = l.rows ≡ turned (stopped_with_main l.windows) l.turn l.fn.rows
