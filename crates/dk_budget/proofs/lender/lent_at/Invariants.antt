use Rattle.dk_budget.proofs.Names.{◌≡◌, ◌≤◌, ◌*◌, ◌^◌, take, lent_at}
use Rattle.dk_budget.proofs.lender.lent_at.Given as goal

abbrev pub invariant-loop-loan : goal.invariant-loop-loan
invariant-loop-loan l = record {
  part : l.sum ≡ lent_at l.start (take l.loan-index l.loan-items);
  few : l.sum ≤ l.loan-index * 2 ^ 32;
}
