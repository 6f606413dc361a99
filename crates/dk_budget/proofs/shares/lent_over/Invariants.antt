use Rattle.dk_budget.proofs.Names.{◌≡◌, ◌≤◌, ◌*◌, ◌^◌, take, sum_by, Loan}
use Rattle.dk_budget.proofs.Counting.{times_in_force}
use Rattle.dk_budget.proofs.shares.lent_over.Given as goal

abbrev pub invariant-loop-loan : goal.invariant-loop-loan
invariant-loop-loan l = record {
  part : l.sum ≡ sum_by (λ (x : Loan). x.quota * times_in_force l.starts x) (take l.loan-index l.loan-items);
  few : l.sum ≤ l.loan-index * 2 ^ 52;
}
