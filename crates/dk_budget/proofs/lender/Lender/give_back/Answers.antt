use Rattle.dk_budget.proofs.Names.{List, ◌∙◌, ap, sym, Loan, with_loans}
use Rattle.dk_budget.proofs.Remaining.{none-ends}
use Rattle.dk_budget.proofs.lender.Lender.give_back.Goals as goal

pub returns-else-has_ended_at : goal.returns-else-has_ended_at
returns-else-has_ended_at c =
    let none = none-ends c.args.tick c.args.self.now.loans.items (sym c.has_ended_at.ensures ∙ c.if-has_ended_at.false) in
    ap (λ (loans : List Loan). with_loans loans c.args.self.now) (sym none)
