use Rattle.dk_chain.proofs.Names.{◌≡◌, ◌+◌, ◌*◌, ◌≤◌, drop, budget, MAX_SPAN}
use Rattle.std.specs.Prelude.{sum_by}
use Rattle.dk_chain.proofs.shortest.budgets_of.Given as goal

-- the budgets so far and those of the rest are all of them
abbrev pub invariant-loop-process : goal.invariant-loop-process
invariant-loop-process l = record {
  sum : l.ticks + sum_by (budget l.config) (drop l.process-index l.processes) ≡ sum_by (budget l.config) l.processes;
  few : l.ticks ≤ l.process-index * MAX_SPAN;
}
