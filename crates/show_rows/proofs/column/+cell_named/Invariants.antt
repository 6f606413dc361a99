use Rattle.std.proofs.Common.{length}
use Rattle.show_rows.proofs.column.+cell_named.Given as goal

abbrev pub decreases-cell_named : goal.decreases-cell_named
decreases-cell_named l = length l.columns.now
