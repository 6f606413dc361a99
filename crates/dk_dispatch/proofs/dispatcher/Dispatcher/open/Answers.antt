use Rattle.dk_dispatch.proofs.Names.{sym, subst, IsReady, Keeps, slots, Dispatched, seen}
use Rattle.dk_dispatch.proofs.Keeping.{opened-keeps}
use Rattle.dk_dispatch.proofs.Ticking.{is-closed, opened-steps, some-periods, stands-opened}
use Rattle.dk_dispatch.proofs.dispatcher.Dispatcher.open.Goals as goal

pub open-requires-clause-levels : goal.open-requires-clause-levels
open-requires-clause-levels g c = some-periods _ _ _ c.self.view_is c.requires c.self.invariant

pub open-requires-clause-still : goal.open-requires-clause-still
open-requires-clause-still g c = λ off.
    let is = is-closed _ _ _ c.self.view_is c.requires c.self.invariant in
    c.opening_makes_the_next_tick.ensures.rests _ _ _ c.self.inside.tables is.0 is.1 off

pub open-requires-clause-may : goal.open-requires-clause-may
open-requires-clause-may g c = λ sound before after.
    let is = is-closed _ _ _ c.self.view_is c.requires c.self.invariant in
    c.opening_makes_the_next_tick.ensures.may _ _ _ c.self.inside.tables is.0 is.1 sound before after

pub invariant_of-self : goal.invariant_of-self
invariant_of-self g c =
    let is = is-closed _ _ _ c.self.view_is c.requires c.self.invariant in
    let b = c.open.ensures in
    stands-opened _ _ _ c.self.view_is c.requires c.self.invariant _ c.open.new.self c.then-self-inside.ensures
    (subst (IsReady _ _) (sym b.tables) (c.opening_makes_the_next_tick.ensures.opens _ _ _ c.self.inside.tables is.0 is.1 b.sound b.before b.after))

pub returns-clause-rows : goal.returns-clause-rows
returns-clause-rows g c =
    subst (λ (w : Dispatched). Keeps (seen w) (slots c.open.new.self)) c.self.view_is
    (subst (λ t. Keeps (slots c.self.inside.tables) (slots t)) (sym c.open.ensures.tables) (opened-keeps c.self.inside.tables c.open.ensures.before))

pub returns-clause-steps : goal.returns-clause-steps
returns-clause-steps g c =
    let is = is-closed _ _ _ c.self.view_is c.requires c.self.invariant in
    let b = c.open.ensures in
    opened-steps _ _ _ c.self.view_is c.requires c.self.invariant _ _ _ b.steps
    (c.opening_makes_the_next_tick.ensures.steps _ _ _ c.self.inside.tables is.0 is.1 b.sound b.before b.after) _ c.then-self-inside.ensures
