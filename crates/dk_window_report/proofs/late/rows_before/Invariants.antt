use Rattle.std.proofs.Common.{◌≡◌, take}
use Rattle.dk_window_report.specs.Late.{rows_at}
use Rattle.dk_window_report.proofs.late.rows_before.Given as goal

abbrev pub invariant-loop-late : goal.invariant-loop-late
invariant-loop-late l = l.rows.items ≡ rows_at l.tick (take l.late-index l.lates)
