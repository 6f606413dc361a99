use Rattle.dk_repeat_search.proofs.Names.{AreTold}
use Rattle.dk_repeat_search.proofs.always.all_waits.Given as goal

abbrev pub invariant-loop-process : goal.invariant-loop-process
invariant-loop-process l = AreTold l.own l.watches l.process l.waits.items
