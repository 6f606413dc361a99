use Rattle.dk_budget.proofs.Names.{◌||◌, ◌+◌, ◌∙◌, drop, ap, sym, list_any, at_drop_more, is_ended_at}
use Rattle.dk_budget.proofs.Kept.{no_loan}
use Rattle.dk_budget.proofs.lender.has_ended_at.Goals as goal

pub returns-then-is_ended_at : goal.returns-then-is_ended_at
returns-then-is_ended_at c =
    let test = is_ended_at c.args.tick in
    let loans = c.as_slice-loan-items.result.now in
    let i = c.loop-loan.loan-index in
    sym (ap (list_any test) (sym c.as_slice-loan-items.ensures.value)
    ∙ c.loop-loan.invariant
    ∙ at_drop_more (list_any test) loans i no_loan c.loop-loan-test.true
    ∙ ap (λ b. b || list_any test (drop (i + 1) loans)) (sym c.is_ended_at.ensures ∙ c.if-is_ended_at.true))

pub loop-loan-preserved : goal.loop-loan-preserved
loop-loan-preserved c =
    let test = is_ended_at c.args.tick in
    let loans = c.as_slice-loan-items.result.now in
    let i = c.loop-loan.loan-index in
    c.loop-loan.invariant
    ∙ at_drop_more (list_any test) loans i no_loan c.loop-loan-test.true
    ∙ ap (λ b. b || list_any test (drop (i + 1) loans)) (sym c.is_ended_at.ensures ∙ c.if-is_ended_at.false)
