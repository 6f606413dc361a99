use Rattle.dk_repeat_search.proofs.Names.{AreWhole}
use Rattle.dk_repeat_search.proofs.states.process_states.Given as goal

abbrev pub invariant-loop-process : goal.invariant-loop-process
invariant-loop-process l = AreWhole l.kernel l.process l.states.items
