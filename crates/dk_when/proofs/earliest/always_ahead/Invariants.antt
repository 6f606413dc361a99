use Rattle.std.proofs.Common.{◌*◌}
use Rattle.dk_config.specs.Windows.{release}
use Rattle.dk_when.specs.Earliest.{windows_over}
use Rattle.dk_when.proofs.Running.{WorkSoFar}
use Rattle.dk_when.proofs.earliest.always_ahead.Given as goal

abbrev pub invariant-loop-level : goal.invariant-loop-level
invariant-loop-level l = WorkSoFar (λ i. release l.config i * windows_over l.config l.process i l.ticks) l.level l.work
