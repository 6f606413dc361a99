use Rattle.std.proofs.Common.{◌≡◌}
use Rattle.dk_trace.specs.Entries.{quiet}
use Rattle.dk_window_report.specs.Passing.{gone_by}
use Rattle.dk_window_report.proofs.passing.paid_by.Given as goal

abbrev pub invariant-loop-tick : goal.invariant-loop-tick
invariant-loop-tick l = l.after ≡ gone_by (quiet l.label) l.now l.tick l.fn.row
