use Rattle.dk_budget.proofs.Names.{◌∙◌, ap, ℕ, Option, arith, if◌then◌else◌, is_before, sum_over}
use Rattle.dk_budget.proofs.Counting.{main-over}
use Rattle.dk_budget.proofs.shares.main_over.Goals as goal

pub overflow_sub-result : goal.overflow_sub-result
overflow_sub-result c =
    let all = main-over c.args.lender.now c.args.starts.now c.before-until.result
    (λ f. c.before-until.ensures.sums f ∙ ap (λ (t : Option ℕ). sum_over c.args.starts.now (λ s. if is_before t s then f s else 0)) c.after_stop.ensures.tick)
    c.requires.covered in
    omega (arith, all, c.lent_over.ensures)

pub returns-clause-sum : goal.returns-clause-sum
returns-clause-sum c =
    let all = main-over c.args.lender.now c.args.starts.now c.before-until.result
    (λ f. c.before-until.ensures.sums f ∙ ap (λ (t : Option ℕ). sum_over c.args.starts.now (λ s. if is_before t s then f s else 0)) c.after_stop.ensures.tick)
    c.requires.covered in
    omega (arith, all, c.lent_over.ensures)
