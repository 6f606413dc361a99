use Rattle.dk_dispatch.proofs.Names.{◌≡◌, ◌+◌, ◌≤◌, cells_freed}
use Rattle.dk_dispatch.proofs.stopping.free_levels.Given as goal

abbrev pub invariant-loop-faster : goal.invariant-loop-faster
invariant-loop-faster g l = record {
  cells : l.demand ≡ cells_freed l.id l.faster l.mutexes l.fn.demand;
  steps : l.steps ≤ l.fn.steps + l.faster;
}
