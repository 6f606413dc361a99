use Rattle.std.proofs.Common.{◌≡◌}
use Rattle.dk_review.proofs.Chained.{AreSoFar}
use Rattle.dk_review.proofs.chains.chains_of.Given as goal

-- the chains of the needs so far
abbrev pub invariant-loop-i : goal.invariant-loop-i
invariant-loop-i l = AreSoFar l.initial.config l.needs l.i l.told.items × (l.config ≡ l.initial.config)
