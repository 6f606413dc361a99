use Rattle.dk_budget.proofs.Names.{◌≡◌, ◌≤◌, ◌*◌, take, sum_by, MAX_SPAN, child_future}
use Rattle.dk_budget.proofs.shares.children_future.Given as goal

abbrev pub invariant-loop-loan : goal.invariant-loop-loan
invariant-loop-loan l = record {
  part : l.sum ≡ sum_by (child_future l.periods.items l.lender.level l.windows l.last) (take l.loan-index l.loan-items);
  few : l.sum ≤ l.loan-index * (MAX_SPAN * MAX_SPAN);
}
