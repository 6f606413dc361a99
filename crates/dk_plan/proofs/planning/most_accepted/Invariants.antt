use Rattle.dk_plan.proofs.Accepting.{FitsSoFar}
use Rattle.dk_plan.proofs.planning.most_accepted.Given as goal

abbrev pub invariant-loop-level : goal.invariant-loop-level
invariant-loop-level l = FitsSoFar l.config l.process l.level l.most
