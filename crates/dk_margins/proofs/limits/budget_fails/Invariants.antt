use Rattle.dk_margins.proofs.Names.{LevelFits}
use Rattle.std.specs.Prelude.{ℕ, ◌<◌}
use Rattle.dk_margins.proofs.limits.budget_fails.Given as goal

-- the levels before this one fit
abbrev pub invariant-loop-level : goal.invariant-loop-level
invariant-loop-level l = (j : ℕ) → j < l.level → LevelFits l.config l.process j l.budget
