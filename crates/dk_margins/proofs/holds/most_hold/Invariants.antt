use Rattle.dk_margins.proofs.Names.{HoldFits}
use Rattle.dk_margins.proofs.Levels.{FitsSoFar}
use Rattle.dk_margins.proofs.holds.most_hold.Given as goal

abbrev pub invariant-loop-level : goal.invariant-loop-level
invariant-loop-level l = FitsSoFar (HoldFits l.config l.mutex) l.level l.most
