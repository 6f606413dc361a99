use Rattle.dk_budget.proofs.Names.{◌+◌, ◌∙◌, take, ap, sym, arith, sum_by, sum_by_more, child_future}
use Rattle.dk_budget.proofs.Kept.{no_loan}
use Rattle.dk_budget.proofs.shares.children_future.Goals as goal

pub loop-loan-preserved : goal.loop-loan-preserved
loop-loan-preserved c =
    let f = child_future c.args.periods.now.items c.args.lender.now.level c.args.windows.now c.args.last in
    let loans = c.as_slice-loan-items.result.now in
    let more = sum_by_more f loans c.loop-loan.loan-index no_loan c.loop-loan-test.true in
    record {
      part = ap (λ n. n + c.child_future-sum.result) c.loop-loan.invariant.part
          ∙ ap (λ n. sum_by f (take c.loop-loan.loan-index loans) + n) c.child_future-sum.ensures.sum
          ∙ sym more;
      few = omega (arith, c.loop-loan.invariant.few, c.child_future-sum.ensures.few);
    }
