use Rattle.std.proofs.Common.{◌≡◌, ◌++◌, map, take, drop}
use Rattle.dk_cycle_counts.specs.Process.{use_gone_by}
use Rattle.dk_cycle_counts.proofs.counts.all_gone_by.Given as goal

abbrev pub invariant-loop-process : goal.invariant-loop-process
invariant-loop-process l =
    l.process-items
    ≡ map (use_gone_by l.ticks l.label l.count) (take l.process-index l.initial.process-items) ++ drop l.process-index l.initial.process-items
