use Rattle.dk_cycle.proofs.Names.{AreSameThreads}
use Rattle.dk_cycle.proofs.run.same_threads.Given as goal

abbrev pub invariant-loop-place : goal.invariant-loop-place
invariant-loop-place l = AreSameThreads l.one l.other l.place
