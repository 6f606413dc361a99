use Rattle.dk_budget.proofs.Names.{◌≡◌, map, range_with_len, lender_of}
use Rattle.dk_budget.proofs.loans.lenders_of.Given as goal

abbrev pub invariant-loop-process : goal.invariant-loop-process
invariant-loop-process l = l.lenders.items ≡ map (lender_of l.config) (range_with_len 0 l.process)
