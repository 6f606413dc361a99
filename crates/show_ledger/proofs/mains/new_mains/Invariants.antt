use Rattle.std.proofs.Common.{◌≡◌, [], length}
use Rattle.show_ledger.specs.Told.{AreToldFrom}
use Rattle.show_ledger.proofs.mains.new_mains.Given as goal

-- the mains so far
abbrev pub invariant-loop-process : goal.invariant-loop-process
invariant-loop-process l = record {
  each : AreToldFrom l.header [] 0 l.mains.items;
  number : length l.mains.items ≡ l.process;
}
