use Rattle.std.proofs.Common.{◌≡◌, ◌++◌, map, take, drop}
use Rattle.dk_window_report.specs.Late.{late_with}
use Rattle.dk_window_report.proofs.rows.change_all.Given as goal

abbrev pub invariant-loop-late : goal.invariant-loop-late
invariant-loop-late l = l.lates ≡ map (late_with l.now l.entry) (take l.late-index l.initial.lates) ++ drop l.late-index l.initial.lates
