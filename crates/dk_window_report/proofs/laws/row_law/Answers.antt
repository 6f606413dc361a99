use Rattle.std.proofs.Common.{[], arith}
use Rattle.dk_window_report.proofs.Steps.{row-next}
use Rattle.dk_window_report.proofs.Tables.{row-fresh}
use Rattle.dk_window_report.proofs.QuietTicks.{rows-go-by}
use Rattle.dk_window_report.proofs.laws.row_law.Goals as goal

pub returns : goal.returns
returns c = record { start = λ o. row-fresh o [] (omega arith); step = row-next; go_by = rows-go-by }
