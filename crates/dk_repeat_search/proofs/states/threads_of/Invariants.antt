use Rattle.dk_repeat_search.proofs.Names.{AreThreads}
use Rattle.dk_repeat_search.proofs.states.threads_of.Given as goal

abbrev pub invariant-loop-place : goal.invariant-loop-place
invariant-loop-place l = AreThreads l.kernel l.process l.threads.items l.place
