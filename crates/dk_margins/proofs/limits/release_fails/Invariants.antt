use Rattle.dk_margins.proofs.Names.{ReleaseFits}
use Rattle.std.specs.Prelude.{ℕ, ◌<◌}
use Rattle.dk_margins.proofs.limits.release_fails.Given as goal

-- the levels before this one fit
abbrev pub invariant-loop-at : goal.invariant-loop-at
invariant-loop-at l = (j : ℕ) → j < l.at → ReleaseFits l.config l.level j l.release
