use Rattle.dk_demand.proofs.Names.{◌≡◌, ◌%◌, ◌^◌, take, sum}
use Rattle.dk_demand.proofs.cells.run_up_to.Given as goal

abbrev pub invariant-loop-faster : goal.invariant-loop-faster
invariant-loop-faster l = l.sum ≡ sum (take l.faster l.counters) % 2 ^ 64
