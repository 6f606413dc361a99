use Rattle.dk_threads.proofs.Names.{◌≡◌, kept}
use Rattle.dk_threads.proofs.Turns.{turned}
use Rattle.dk_threads.proofs.children.end_due.Given as goal

abbrev pub invariant-loop-turn : goal.invariant-loop-turn
invariant-loop-turn l = l.rows ≡ turned (kept l.now) l.turn l.fn.rows
