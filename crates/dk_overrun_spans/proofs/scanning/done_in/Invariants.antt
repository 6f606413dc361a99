use Rattle.std.proofs.Common.{◌≡◌, reverse, take, drop}
use Rattle.dk_window_report.specs.Windows.{done_in}
use Rattle.dk_overrun_spans.proofs.scanning.done_in.Given as goal

-- no tick behind those that are left is one of the budget
abbrev pub invariant-loop-done : goal.invariant-loop-done
invariant-loop-done l = done_in l.thread (reverse (take l.ticks (drop l.start l.entries))) ≡ done_in l.thread (reverse (take l.done (drop l.start l.entries)))

abbrev pub decreases-loop-done : goal.decreases-loop-done
decreases-loop-done l = l.done
