use Rattle.dk_dispatch.proofs.Names.{◌+◌, ◌≤◌, length, subst, sym, IfSome, MAX_TICKS, Dispatched, Runs}
use Rattle.dk_dispatch.proofs.Running.{runs-by-past}
use Rattle.dk_dispatch.proofs.Stretching.{has-room}
use Rattle.dk_dispatch.proofs.Ticking.{is-ready}
use Rattle.dk_dispatch.proofs.dispatcher.Dispatcher.run_ahead.Goals as goal

pub run_ahead-requires : goal.run_ahead-requires
run_ahead-requires c = has-room _ _ _ c.self.view_is c.requires.ready c.self.invariant _ c.requires.room

pub returns-clause-runs : goal.returns-clause-runs
returns-clause-runs c =
    let p = c.self.inside.history.past in
    let d = c.self.inside.tables in
    let room : length p.entries + c.args.most ≤ MAX_TICKS = subst (λ (w : Dispatched). length w.past.entries + c.args.most ≤ MAX_TICKS) (sym c.self.view_is) c.requires.room in
    subst (λ (w : Dispatched). IfSome c.run_ahead.result (λ runner. Runs runner w)) c.self.view_is
    (runs-by-past c.computing_makes_the_recount.ensures.passes c.windows_are_the_configurations.ensures.ends c.rows_are_the_pasts.ensures.there p d
    (is-ready p d _ c.self.view_is c.requires.ready c.self.invariant) c.are_sound.ensures.sound c.are_sound.ensures.families c.args.most room
    c.run_ahead.result c.run_ahead.ensures.runs c.run_ahead.ensures.few)
