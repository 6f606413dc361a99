use Rattle.dk_dispatch.proofs.Names.{arith, sym, subst, Choice, HasFamilies, IsSound, Passes}
use Rattle.dk_dispatch.proofs.Stretching.{some-levels}
use Rattle.dk_dispatch.proofs.tables.AllTables.rest.Goals as goal

pub idle_ahead-requires : goal.idle_ahead-requires
idle_ahead-requires c = some-levels c.args.most c.args.self.now c.requires

pub pass_idle-requires-clause-room : goal.pass_idle-requires-clause-room
pass_idle-requires-clause-room c =
    let tick = c.requires.stands.recount.tick in
    let room = c.requires.room in
    let few = c.in-Some.ensures.few in
    omega (arith, tick, room, few)

pub pass_idle-requires-clause-known : goal.pass_idle-requires-clause-known
pass_idle-requires-clause-known c = some-levels c.args.most c.args.self.now c.requires

pub pass_idle-requires-clause-within : goal.pass_idle-requires-clause-within
pass_idle-requires-clause-within c = c.in-Some.ensures.within

pub pass_idle-requires-clause-counts : goal.pass_idle-requires-clause-counts
pass_idle-requires-clause-counts c =
    let d = c.args.self.now in
    let has = c.requires in
    let few = c.in-Some.ensures.few in
    let room = has.room in
    c.resting_makes_the_recount.ensures.counts c.in-Some.count has.config has.past d has.stands (subst IsSound c.self.view_is c.self.invariant)
    (subst HasFamilies c.self.view_is c.rows_are_in_order.ensures) c.in-Some.ensures.rests c.in-Some.ensures.within (omega (arith, few, room))

pub returns-in-Some-clause-passes : goal.returns-in-Some-clause-passes
returns-in-Some-clause-passes c =
    let d = c.args.self.now in
    subst (Passes Choice.Idle c.in-Some.count d) (sym c.pass_idle.ensures)
    (c.resting_makes_the_recount.ensures.passes c.in-Some.count d (subst IsSound c.self.view_is c.self.invariant) (subst HasFamilies c.self.view_is c.rows_are_in_order.ensures)
    c.in-Some.ensures.rests c.in-Some.ensures.within)
