use Rattle.std.proofs.Common.{◌≡◌, ◌++◌, flat_map}
use Rattle.dk_config.specs.Sums.{below}
use Rattle.show_ledger.specs.Holds.{mutex_told}
use Rattle.show_ledger.proofs.mutexes.add_mutexes.Given as goal

-- the lines so far are added
abbrev pub invariant-loop-mutex : goal.invariant-loop-mutex
invariant-loop-mutex l = l.out.items ≡ l.initial.out.items ++ flat_map (mutex_told l.rows l.header l.all) (below l.mutex)
