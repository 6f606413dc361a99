use Rattle.dk_budget.proofs.Names.{◌≡◌, ◌≤◌, length, take, not_ended_at}
use Rattle.dk_budget.proofs.lender.not_ended_at.Given as goal

abbrev pub invariant-loop-loan : goal.invariant-loop-loan
invariant-loop-loan l = record {
  part : l.rest.items ≡ not_ended_at l.tick (take l.loan-index l.loan-items);
  few : length l.rest.items ≤ l.loan-index;
}
