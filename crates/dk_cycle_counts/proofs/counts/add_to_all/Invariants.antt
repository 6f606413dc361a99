use Rattle.std.proofs.Common.{◌≡◌, ◌++◌, map, take, drop}
use Rattle.dk_cycle_counts.specs.Process.{use_with}
use Rattle.dk_cycle_counts.proofs.counts.add_to_all.Given as goal

abbrev pub invariant-loop-process : goal.invariant-loop-process
invariant-loop-process l =
    l.process-items
    ≡ map (use_with l.ticks l.entry) (take l.process-index l.initial.process-items) ++ drop l.process-index l.initial.process-items
