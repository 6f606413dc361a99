use Rattle.dk_threads.proofs.Names.{◌≡◌, Some, started}
use Rattle.dk_threads.proofs.Turns.{turned}
use Rattle.dk_threads.proofs.children.start_due.Given as goal

abbrev pub invariant-loop-turn : goal.invariant-loop-turn
invariant-loop-turn l = l.rows ≡ turned (λ row. Some (started l.now row)) l.turn l.fn.rows
