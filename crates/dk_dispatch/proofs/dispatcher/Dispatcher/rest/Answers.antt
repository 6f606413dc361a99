use Rattle.dk_dispatch.proofs.Names.{arith, Choice}
use Rattle.dk_dispatch.proofs.Stretching.{goes, has-room, rows-later, stands-later}
use Rattle.dk_dispatch.proofs.dispatcher.Dispatcher.rest.Goals as goal

pub rest-count-requires : goal.rest-count-requires
rest-count-requires c = has-room _ _ _ c.self.view_is c.requires.ready c.self.invariant _ c.requires.room

pub invariant_of-self : goal.invariant_of-self
invariant_of-self c =
    let room = c.requires.room in
    let few = c.rest-count.ensures.few in
    stands-later _ _ _ c.self.view_is c.requires.ready c.self.invariant Choice.Idle _ _ c.rest-count.ensures.passes (omega (arith, room, few)) _ c.then-self-inside.ensures

pub returns-clause-goes : goal.returns-clause-goes
returns-clause-goes c =
    let room = c.requires.room in
    let few = c.rest-count.ensures.few in
    goes _ _ _ c.self.view_is c.requires.ready c.self.invariant Choice.Idle _ _ c.rest-count.ensures.passes (omega (arith, room, few))

pub returns-clause-rows : goal.returns-clause-rows
returns-clause-rows c =
    let room = c.requires.room in
    let few = c.rest-count.ensures.few in
    rows-later _ _ _ c.self.view_is c.requires.ready c.self.invariant Choice.Idle _ _ c.rest-count.ensures.passes (omega (arith, room, few))
