use Rattle.dk_margins.proofs.Names.{HoldFits}
use Rattle.std.specs.Prelude.{ℕ, ◌<◌}
use Rattle.dk_margins.proofs.limits.hold_fails.Given as goal

-- the levels before this one fit
abbrev pub invariant-loop-level : goal.invariant-loop-level
invariant-loop-level l = (j : ℕ) → j < l.level → HoldFits l.config l.mutex j l.hold
