use Rattle.dk_recount.proofs.Names.{◌≡◌, length, ap, sym, subst, ◌∙◌, below, is_tight_at, first_unfit, NoneIsLate}
use Rattle.std.specs.List.{find}
use Rattle.dk_recount.proofs.Choosing.{denies}
use Rattle.dk_recount.proofs.laws.denial_is_the_pasts.Goals as goal

pub returns : goal.returns
returns c = λ k past d ready families.
    let tick = ready.recount.tick in
    let late : NoneIsLate k d.demand.windows.tick past =
    subst (λ t. NoneIsLate k t past) (sym tick) (c.window_demand_law.ensures k past ready.ruled.checked ready.ruled.accepted ready.ruled.audited) in
    let tight : first_unfit d.demand ≡ find (is_tight_at k (length past) past) (below (length k.levels)) =
    c.first_unfit_is_the_pasts.ensures.denied k past d.demand ready.recount.cells late
    ∙ ap (λ t. find (is_tight_at k t past) (below (length k.levels))) tick in
    denies c.choosing_laws.ensures k past d ready families tight
