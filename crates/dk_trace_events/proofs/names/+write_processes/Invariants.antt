use Rattle.std.proofs.Common.{length}
use Rattle.dk_trace_events.proofs.names.+write_processes.Given as goal

abbrev pub decreases-write_processes : goal.decreases-write_processes
decreases-write_processes g l = length l.lines.now
