use Rattle.dk_config.specs.Ahead.{process_ahead}
use Rattle.dk_when.proofs.Running.{WorkSoFar}
use Rattle.dk_when.proofs.counting.processes_ahead.Given as goal

abbrev pub invariant-loop-other : goal.invariant-loop-other
invariant-loop-other l = WorkSoFar (process_ahead l.config l.process l.ticks) l.other l.work
