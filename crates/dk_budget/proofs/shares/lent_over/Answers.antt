use Rattle.dk_budget.proofs.Names.{◌∙◌, ◌*◌, ap, sym, sum_by, take_all, Loan}
use Rattle.dk_budget.proofs.Counting.{lent-over, times_in_force}
use Rattle.dk_budget.proofs.shares.lent_over.Goals as goal

pub returns : goal.returns
returns c =
    let loans = c.as_slice-loan-items.result.now in
    let all = take_all c.loop-loan.loan-index loans c.loop-loan-test.false in
    c.loop-loan.invariant.part
    ∙ ap (sum_by (λ (x : Loan). x.quota * times_in_force c.args.starts.now x)) (all ∙ c.as_slice-loan-items.ensures.value)
    ∙ sym (lent-over c.args.starts.now c.args.loans.now.items)
