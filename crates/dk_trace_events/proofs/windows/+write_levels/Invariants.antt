use Rattle.std.proofs.Common.{length}
use Rattle.dk_trace_events.proofs.windows.+write_levels.Given as goal

abbrev pub decreases-write_levels : goal.decreases-write_levels
decreases-write_levels g l = length l.rows.now
