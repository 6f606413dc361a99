use Rattle.dk_dispatch.proofs.Names.{◌≡◌, ◌+◌, ◌-◌, ◌*◌, ◌≤◌, MAX_SPAN, MAX_THREADS, sum_from, future_shares, shares_to_come}
use Rattle.dk_dispatch.proofs.levels.shares_to_come.Given as goal

abbrev pub invariant-loop-process : goal.invariant-loop-process
invariant-loop-process l = record {
  sum : l.sum + sum_from l.process (l.processes - l.process) (λ p. future_shares l.loans l.windows p l.level) ≡ shares_to_come l.loans l.windows l.level;
  few : l.sum ≤ l.process * (MAX_THREADS * MAX_SPAN * MAX_SPAN);
}
