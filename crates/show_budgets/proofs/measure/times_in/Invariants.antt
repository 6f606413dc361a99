use Rattle.std.proofs.Common.{◌≡◌}
use Rattle.std.specs.Prelude.{◌++◌, drop}
use Rattle.std.specs.List.{filter_map}
use Rattle.dk_times.specs.Table.{told}
use Rattle.show_budgets.proofs.measure.times_in.Given as goal

abbrev pub invariant-loop-cell : goal.invariant-loop-cell
invariant-loop-cell l = l.times.items ++ filter_map told (drop l.cell-index l.cells) ≡ filter_map told l.cells
