use Rattle.std.specs.Option.{option_map_or}
use Rattle.dk_config.specs.Ahead.{budgets_begun, slowest_up_to}
use Rattle.dk_when.proofs.Running.{WorkSoFar}
use Rattle.dk_when.proofs.levels.processes_up_to.Given as goal

abbrev pub invariant-loop-process : goal.invariant-loop-process
invariant-loop-process l = WorkSoFar (λ q. option_map_or (budgets_begun l.config q l.ticks) (slowest_up_to l.config l.level q) 0) l.process l.work
