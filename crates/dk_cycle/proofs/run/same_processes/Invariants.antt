use Rattle.dk_cycle.proofs.Names.{AreSame}
use Rattle.dk_cycle.proofs.run.same_processes.Given as goal

abbrev pub invariant-loop-process : goal.invariant-loop-process
invariant-loop-process l = AreSame l.one l.other l.process
