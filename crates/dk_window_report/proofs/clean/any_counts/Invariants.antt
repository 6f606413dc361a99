use Rattle.std.proofs.Common.{◌≡◌, false, take}
use Rattle.std.specs.List.{list_any}
use Rattle.dk_window_report.specs.Late.{rows_at}
use Rattle.dk_window_report.specs.Clean.{counts}
use Rattle.dk_window_report.proofs.clean.any_counts.Given as goal

-- none of those so far counts
abbrev pub invariant-loop-place : goal.invariant-loop-place
invariant-loop-place l = list_any (counts l.sparing l.accounts) (take l.place (rows_at l.tick l.lates)) ≡ false
