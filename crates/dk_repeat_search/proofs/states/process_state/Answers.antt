use Rattle.dk_repeat_search.proofs.Names.{few-shown}
use Rattle.dk_repeat_search.proofs.Shown.{process-state}
use Rattle.dk_repeat_search.proofs.states.process_state.Goals as goal

pub returns-in-Some-clause-is : goal.returns-in-Some-clause-is
returns-in-Some-clause-is c =
    let k = c.args.kernel.now in
    let p = c.args.process in
    let few = few-shown k c.dispatcher.result.now.past p c.dispatcher.ensures.config c.dispatcher.ensures.entries c.rows_are_few.ensures c.requires in
    let memory = rw c.in-Some.is at c.in_ok-memory_of.ensures.is in
    process-state k p (record { words = c.in-Some.words; threads = c.in_ok-threads.threads }) few memory c.in_ok-threads.ensures
