use Rattle.std.proofs.Common.{◌≡◌, map}
use Rattle.dk_window_report.specs.Owners.{mains}
use Rattle.dk_window_report.specs.Rows.{new_row}
use Rattle.dk_window_report.specs.Late.{rows_at}
use Rattle.dk_window_report.specs.Touched.{ArePlaced}
use Rattle.dk_window_report.proofs.kept.main_rows.Given as goal

abbrev pub invariant-loop-process : goal.invariant-loop-process
invariant-loop-process l = record {
  rows : rows_at 0 l.rows.lates.items ≡ map new_row (mains l.header l.process);
  placed : ArePlaced 0 l.rows;
}
