use Rattle.dk_budget.proofs.Names.{◌≡◌, ◌≤◌, ◌*◌, ◌^◌, take, lent}
use Rattle.dk_budget.proofs.lender.lent.Given as goal

abbrev pub invariant-loop-loan : goal.invariant-loop-loan
invariant-loop-loan l = record {
  part : l.sum ≡ lent (take l.loan-index l.loan-items);
  few : l.sum ≤ l.loan-index * 2 ^ 32;
}
