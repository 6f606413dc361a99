use Rattle.dk_cycle_start.proofs.Threads.{AreSameBelow}
use Rattle.dk_cycle_start.proofs.alike.are_alike.Given as goal

abbrev pub invariant-loop-process : goal.invariant-loop-process
invariant-loop-process l = AreSameBelow l.early l.late l.process
