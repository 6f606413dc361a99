use Rattle.dk_cycle_start.proofs.Names.{arith, few-shown}
use Rattle.dk_cycle_start.proofs.Threads.{same-image}
use Rattle.dk_cycle_start.proofs.alike.same_threads.Goals as goal

pub returns-clause-same : goal.returns-clause-same
returns-clause-same c = λ yes.
    let k = c.args.early.now in
    let p = c.args.process in
    let few = few-shown k c.dispatcher.result.now.past p c.dispatcher.ensures.config c.dispatcher.ensures.entries c.rows_are_few.ensures c.requires.known in
    same-image k c.args.late.now p c.loop-place.place few (omega (arith, c.loop-place-test.false)) c.loop-place.invariant
