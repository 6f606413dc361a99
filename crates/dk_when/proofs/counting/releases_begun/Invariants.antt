use Rattle.std.proofs.Common.{◌*◌}
use Rattle.dk_config.specs.Ahead.{windows_begun}
use Rattle.dk_config.specs.Windows.{release}
use Rattle.dk_when.proofs.Running.{WorkSoFar}
use Rattle.dk_when.proofs.counting.releases_begun.Given as goal

abbrev pub invariant-loop-level : goal.invariant-loop-level
invariant-loop-level l = WorkSoFar (λ i. release l.config i * windows_begun l.config i l.ticks) l.level l.work
