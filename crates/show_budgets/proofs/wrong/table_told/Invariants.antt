use Rattle.std.proofs.Common.{◌≡◌}
use Rattle.std.specs.Prelude.{◌++◌, drop, flat_map}
use Rattle.show_budgets.specs.Wrong.{column_told, table_told}
use Rattle.show_budgets.proofs.wrong.table_told.Given as goal

abbrev pub invariant-loop-row : goal.invariant-loop-row
invariant-loop-row l = l.out.items ++ flat_map (column_told l.config l.table) (drop l.row-index l.config.processes) ≡ table_told l.config l.table
