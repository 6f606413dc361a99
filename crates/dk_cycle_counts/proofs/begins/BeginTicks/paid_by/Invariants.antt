use Rattle.std.proofs.Common.{◌≡◌}
use Rattle.dk_trace.specs.Entries.{quiet}
use Rattle.dk_window_report.specs.Passing.{gone_by}
use Rattle.dk_cycle_counts.specs.Begins.{begins_gone_by}
use Rattle.dk_cycle_counts.proofs.begins.BeginTicks.paid_by.Given as goal

abbrev pub invariant-loop-tick : goal.invariant-loop-tick
invariant-loop-tick l =
    (l.begins ≡ begins_gone_by l.fn.ticks l.fn.label l.tick l.fn.row l.fn.self) × (l.main ≡ gone_by (quiet l.fn.label) l.fn.ticks l.tick l.fn.row)
