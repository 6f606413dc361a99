use Rattle.std.proofs.Common.{◌≡◌, take}
use Rattle.dk_report.specs.Sums.{kernel_of}
use Rattle.dk_report.proofs.sums.kernel_of.Given as goal

abbrev pub invariant-loop-level : goal.invariant-loop-level
invariant-loop-level l = l.sum ≡ kernel_of (take l.level l.levels)
