use Rattle.std.proofs.Common.{ℕ, ◌≡◌, ◌<◌, false}
use Rattle.show_impact.specs.Touching.{is_lost}
use Rattle.show_impact.proofs.touching.loses_none.Given as goal

-- none so far is lost
abbrev pub invariant-loop-process : goal.invariant-loop-process
invariant-loop-process l = (p : ℕ) → p < l.process → is_lost l.old.config l.new.config l.names p ≡ false
