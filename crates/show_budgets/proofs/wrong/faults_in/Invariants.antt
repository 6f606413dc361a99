use Rattle.std.proofs.Common.{◌≡◌}
use Rattle.std.specs.Prelude.{◌++◌, drop}
use Rattle.std.specs.List.{filter_map}
use Rattle.show_budgets.specs.Wrong.{fault_in}
use Rattle.show_budgets.proofs.wrong.faults_in.Given as goal

abbrev pub invariant-loop-cell : goal.invariant-loop-cell
invariant-loop-cell l = l.faults.items ++ filter_map fault_in (drop l.cell-index l.cells) ≡ filter_map fault_in l.cells
