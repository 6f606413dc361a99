use Rattle.dk_margins.proofs.Names.{ReleaseFits}
use Rattle.dk_margins.proofs.Levels.{FitsSoFar}
use Rattle.dk_margins.proofs.releases.most_release.Given as goal

abbrev pub invariant-loop-at : goal.invariant-loop-at
invariant-loop-at l = FitsSoFar (ReleaseFits l.config l.level) l.at l.most
