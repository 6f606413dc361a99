use Rattle.dk_dispatch.proofs.Names.{◌≡◌, ◌∙◌, ap, length, subst, sym, Cells}
use Rattle.dk_demand.specs.Recount.{IsRecount}
use Rattle.dk_dispatch.proofs.Ticking.{at-ready}
use Rattle.dk_dispatch.proofs.dispatcher.Dispatcher.demand.Goals as goal

pub returns-clause-tick : goal.returns-clause-tick
returns-clause-tick c =
    at-ready _ _ _ c.self.view_is c.requires c.self.invariant (λ k past t. c.demand.result.now.windows.tick ≡ length past)
    (λ stands. ap (λ (z : Cells). z.windows.tick) c.demand.ensures ∙ stands.recount.tick)

pub returns-clause-cells : goal.returns-clause-cells
returns-clause-cells c =
    at-ready _ _ _ c.self.view_is c.requires c.self.invariant (λ k past t. IsRecount k past c.demand.result.now)
    (λ stands. subst (IsRecount _ _) (sym c.demand.ensures) stands.recount.cells)
