use Rattle.dk_dispatch.proofs.Names.{◌≡◌, ◌+◌, ◌-◌, ◌*◌, ◌^◌, ◌≤◌, ◌/◌, get_or, MAX_SPAN, sum_from, period_at, kernel_work}
use Rattle.dk_dispatch.proofs.levels.kernel_work.Given as goal

abbrev pub invariant-loop-faster : goal.invariant-loop-faster
invariant-loop-faster l = record {
  sum : l.sum + sum_from l.faster (l.level + 1 - l.faster) (λ i. get_or l.releases.items i 0 * (period_at l.windows l.level / period_at l.windows i)) ≡ kernel_work l.releases.items l.windows l.level;
  few : l.sum ≤ l.faster * (MAX_SPAN * 2 ^ 32);
}
