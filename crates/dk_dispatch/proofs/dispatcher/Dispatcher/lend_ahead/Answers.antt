use Rattle.dk_dispatch.proofs.Names.{◌+◌, ◌≤◌, length, subst, sym, IfSome, MAX_TICKS, Dispatched, Borrows}
use Rattle.dk_dispatch.proofs.Lending.{borrows-by-past}
use Rattle.dk_dispatch.proofs.Stretching.{has-room}
use Rattle.dk_dispatch.proofs.Ticking.{is-ready}
use Rattle.dk_dispatch.proofs.dispatcher.Dispatcher.lend_ahead.Goals as goal

pub lend_ahead-requires : goal.lend_ahead-requires
lend_ahead-requires c = has-room _ _ _ c.self.view_is c.requires.ready c.self.invariant _ c.requires.room

pub returns-clause-borrows : goal.returns-clause-borrows
returns-clause-borrows c =
    let p = c.self.inside.history.past in
    let d = c.self.inside.tables in
    let room : length p.entries + c.args.most ≤ MAX_TICKS = subst (λ (w : Dispatched). length w.past.entries + c.args.most ≤ MAX_TICKS) (sym c.self.view_is) c.requires.room in
    subst (λ (w : Dispatched). IfSome c.lend_ahead.result (λ b. Borrows b w)) c.self.view_is
    (borrows-by-past c.lending_makes_the_recount.ensures.passes c.windows_are_the_configurations.ensures.ends c.wishes_are_the_pasts.ensures.amount c.rows_are_the_pasts.ensures.there p d
    (is-ready p d _ c.self.view_is c.requires.ready c.self.invariant) c.are_sound.ensures.sound c.are_sound.ensures.families c.args.most room
    c.lend_ahead.result c.lend_ahead.ensures.borrows c.lend_ahead.ensures.few)
