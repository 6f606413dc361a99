use Rattle.std.proofs.Common.{◌≡◌, map, take}
use Rattle.show_ledger.specs.Measured.{measured}
use Rattle.show_ledger.proofs.measuring.measure_all.Given as goal

abbrev pub invariant-loop-hold : goal.invariant-loop-hold
invariant-loop-hold l = l.all.items ≡ map (measured l.entries) (take l.hold-index l.holds)
