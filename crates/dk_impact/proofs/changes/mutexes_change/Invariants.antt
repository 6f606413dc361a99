use Rattle.dk_impact.proofs.Names.{mutex_change}
use Rattle.std.specs.Prelude.{ℕ, ◌≡◌, ◌<◌, None}
use Rattle.dk_impact.proofs.changes.mutexes_change.Given as goal

abbrev pub invariant-loop-mutex : goal.invariant-loop-mutex
invariant-loop-mutex l = (j : ℕ) → j < l.mutex → mutex_change l.old l.process l.new l.same j ≡ None
