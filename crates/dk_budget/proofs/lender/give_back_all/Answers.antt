use Rattle.dk_budget.proofs.Names.{◌∙◌, ap, sym, set, arith, map_over_more, Lender, given_back}
use Rattle.dk_budget.proofs.lender.give_back_all.Goals as goal

pub loop-lender-preserved : goal.loop-lender-preserved
loop-lender-preserved c =
    let rows = c.loop-lender.lenders in
    let i = c.loop-lender.lender-index in
    ap (λ (x : Lender). set rows i x) (c.give_back.ensures ∙ ap (given_back c.args.tick) (sym c.lender-item.is))
    ∙ map_over_more (given_back c.args.tick) c.args.lenders.now rows i c.lender-item.result (omega arith) c.loop-lender.invariant c.lender-item.is
