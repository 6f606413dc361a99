use Rattle.std.proofs.Common.{◌≡◌}
use Rattle.std.specs.Prelude.{drop, min, max}
use Rattle.dk_config.specs.Sums.{greatest}
use Rattle.show_budgets.specs.Least.{second}
use Rattle.show_budgets.proofs.tops.tops_of.Given as goal

-- with those that are left they are those of all
abbrev pub invariant-loop-ticks : goal.invariant-loop-ticks
invariant-loop-ticks l = record {
  first : max l.tops.greatest (greatest (drop l.ticks-index l.times)) ≡ greatest l.times;
  other : max l.tops.second (max (min l.tops.greatest (greatest (drop l.ticks-index l.times))) (second (drop l.ticks-index l.times))) ≡ second l.times;
}
