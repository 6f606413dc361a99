use Rattle.std.proofs.Common.{ℕ, ◌<◌}
use Rattle.dk_growth.specs.Growth.{FitsGrown}
use Rattle.dk_growth.proofs.limits.fails_grown.Given as goal

-- the levels before this one fit
abbrev pub invariant-loop-level : goal.invariant-loop-level
invariant-loop-level l = (j : ℕ) → j < l.level → FitsGrown l.config l.percent j
