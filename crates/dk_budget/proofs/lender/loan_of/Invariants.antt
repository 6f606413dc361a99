use Rattle.dk_budget.proofs.Names.{◌≡◌, drop, Loan}
use Rattle.std.proofs.Common.{◌==◌, find}
use Rattle.dk_budget.proofs.lender.loan_of.Given as goal

abbrev pub invariant-loop-loan : goal.invariant-loop-loan
invariant-loop-loan l =
    find (λ (x : Loan). x.serial == l.serial) l.loan-items ≡ find (λ (x : Loan). x.serial == l.serial) (drop l.loan-index l.loan-items)
