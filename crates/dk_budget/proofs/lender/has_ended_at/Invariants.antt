use Rattle.dk_budget.proofs.Names.{◌≡◌, drop, list_any, is_ended_at}
use Rattle.dk_budget.proofs.lender.has_ended_at.Given as goal

abbrev pub invariant-loop-loan : goal.invariant-loop-loan
invariant-loop-loan l = list_any (is_ended_at l.tick) l.loan-items ≡ list_any (is_ended_at l.tick) (drop l.loan-index l.loan-items)
