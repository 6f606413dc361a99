use Rattle.dk_plan.proofs.Bases.{BestSoFar}
use Rattle.dk_plan.proofs.harmonising.best_from.Given as goal

abbrev pub invariant-loop-base : goal.invariant-loop-base
invariant-loop-base l = BestSoFar l.asks l.lo l.base l.best l.least
