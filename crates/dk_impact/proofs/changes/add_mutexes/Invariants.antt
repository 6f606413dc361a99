use Rattle.std.specs.Prelude.{◌≡◌, ◌++◌}
use Rattle.dk_impact.specs.Changes.{mutexes_below}
use Rattle.dk_impact.proofs.changes.add_mutexes.Given as goal

-- those of the mutexes so far are added
abbrev pub invariant-loop-mutex : goal.invariant-loop-mutex
invariant-loop-mutex l = l.changes.items ≡ l.initial.changes.items ++ mutexes_below l.old l.process l.new l.same l.mutex
