use Rattle.std.proofs.Common.{ℕ, ◌≡◌, ◌<◌, false}
use Rattle.show_impact.specs.Touching.{is_touched}
use Rattle.show_impact.proofs.touching.touches_none.Given as goal

-- none so far is touched
abbrev pub invariant-loop-process : goal.invariant-loop-process
invariant-loop-process l = (p : ℕ) → p < l.process → is_touched l.new.config l.rows l.names p ≡ false
