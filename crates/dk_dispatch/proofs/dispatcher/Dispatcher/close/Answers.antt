use Rattle.dk_dispatch.proofs.Names.{◌∙◌, ap, sym, subst, Tables, IsClosed, booked-closed, Dispatched}
use Rattle.dk_dispatch.proofs.Ticking.{below-most, stands-closed}
use Rattle.dk_dispatch.proofs.dispatcher.Dispatcher.close.Goals as goal

pub close-requires : goal.close-requires
close-requires c =
    below-most _ _ _ c.self.view_is _ c.requires.whole c.self.invariant c.untold_event_is_booked.ensures c.requires.room

pub invariant_of-self : goal.invariant_of-self
invariant_of-self c =
    let p = c.self.inside.history.past in
    stands-closed _ _ _ c.self.view_is _ c.requires.whole c.self.invariant c.untold_event_is_booked.ensures _ _ c.then-self-inside.ensures
    (λ booked. subst (IsClosed p.config c.args.entry.now p.entries) (sym c.close.ensures) (booked-closed p.config c.args.entry.now p.entries c.self.inside.tables booked))

pub returns-clause-rows : goal.returns-clause-rows
returns-clause-rows c = ap (λ (t : Tables). t.threads) c.close.ensures ∙ ap (λ (w : Dispatched). w.threads) c.self.view_is
