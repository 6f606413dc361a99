use Rattle.dk_dispatch.proofs.Names.{◌+◌, ◌≤◌, length, subst, sym, MAX_TICKS, Phase, Choice, Dispatched, MayRun}
use Rattle.dk_dispatch.proofs.Running.{may-by-tables}
use Rattle.dk_dispatch.proofs.Stretching.{goes, rows-later, stands-later}
use Rattle.dk_dispatch.proofs.Ticking.{is-ready}
use Rattle.dk_dispatch.proofs.dispatcher.Dispatcher.run.Goals as goal

pub run-requires-clause-may : goal.run-requires-clause-may
run-requires-clause-may g c =
    let p = c.self.inside.history.past in
    let d = c.self.inside.tables in
    let n = c.args.ticks in
    let may : MayRun c.args.thread n p = subst (λ (w : Dispatched). MayRun c.args.thread n w.past) (sym c.self.view_is) c.requires.may in
    let room : length p.entries + n ≤ MAX_TICKS = subst (λ (w : Dispatched). length w.past.entries + n ≤ MAX_TICKS) (sym c.self.view_is) c.requires.room in
    may-by-tables c.computing_makes_the_recount.ensures.passes c.windows_are_the_configurations.ensures.ends p d (is-ready p d _ c.self.view_is c.requires.ready c.self.invariant)
    c.are_sound.ensures.sound c.are_sound.ensures.families c.args.thread c.choice_is_the_pasts.ensures c.charging_makes_the_recount.ensures.may
    c.holds_are_the_pasts.ensures.left c.holds_are_the_pasts.ensures.mutex n may c.requires.some room

pub invariant_of-self : goal.invariant_of-self
invariant_of-self g c =
    stands-later _ _ _ c.self.view_is c.requires.ready c.self.invariant (Choice.Budget c.args.thread Phase.Body) _ _ c.run.ensures.passes c.requires.room _ c.then-self-inside.ensures

pub returns-clause-goes : goal.returns-clause-goes
returns-clause-goes g c =
    goes _ _ _ c.self.view_is c.requires.ready c.self.invariant (Choice.Budget c.args.thread Phase.Body) _ _ c.run.ensures.passes c.requires.room

pub returns-clause-rows : goal.returns-clause-rows
returns-clause-rows g c =
    rows-later _ _ _ c.self.view_is c.requires.ready c.self.invariant (Choice.Budget c.args.thread Phase.Body) _ _ c.run.ensures.passes c.requires.room
