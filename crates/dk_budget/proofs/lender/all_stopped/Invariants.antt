use Rattle.dk_budget.proofs.Names.{◌≡◌, ◌≤◌, length, take, filter_map, stopped}
use Rattle.dk_budget.proofs.lender.all_stopped.Given as goal

abbrev pub invariant-loop-loan : goal.invariant-loop-loan
invariant-loop-loan l = record {
  part : l.rest.items ≡ filter_map (stopped l.windows) (take l.loan-index l.loan-items);
  few : length l.rest.items ≤ l.loan-index;
}
