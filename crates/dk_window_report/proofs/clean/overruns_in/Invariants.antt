use Rattle.std.proofs.Common.{◌≡◌, take}
use Rattle.dk_window_report.specs.Late.{rows_at}
use Rattle.dk_window_report.specs.Report.{overruns_in}
use Rattle.dk_window_report.proofs.clean.overruns_in.Given as goal

abbrev pub invariant-loop-place : goal.invariant-loop-place
invariant-loop-place l = l.sum ≡ overruns_in (take l.place (rows_at l.tick l.lates))
