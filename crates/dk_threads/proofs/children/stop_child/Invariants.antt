use Rattle.dk_threads.proofs.Names.{◌≡◌, stopped_child}
use Rattle.dk_threads.proofs.Turns.{turned}
use Rattle.dk_threads.proofs.children.stop_child.Given as goal

abbrev pub invariant-loop-turn : goal.invariant-loop-turn
invariant-loop-turn l = l.rows ≡ turned (stopped_child l.id l.windows) l.turn l.fn.rows
