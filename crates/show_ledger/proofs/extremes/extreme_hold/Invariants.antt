use Rattle.std.proofs.Common.{◌≡◌, drop}
use Rattle.show_ledger.specs.Extremes.{extreme_from, extreme_hold}
use Rattle.show_ledger.proofs.extremes.extreme_hold.Given as goal

-- the best so far goes on to be compared with the holds that are left
abbrev pub invariant-loop-measured : goal.invariant-loop-measured
invariant-loop-measured l = extreme_from l.extreme l.best (drop l.measured-index l.holds) ≡ extreme_hold l.extreme l.holds
