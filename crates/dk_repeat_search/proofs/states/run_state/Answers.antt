use Rattle.dk_repeat_search.proofs.Names.{subst, AreWhole}
use Rattle.dk_repeat_search.proofs.Shown.{run-state-of}
use Rattle.dk_repeat_search.proofs.states.run_state.Goals as goal

pub returns-in-Some-clause-is : goal.returns-in-Some-clause-is
returns-in-Some-clause-is c =
    let k = c.args.kernel.now in
    let are = rw c.in-Some.is at c.in_ok-process_states.ensures.are in
    let all = subst (λ n. AreWhole k n c.in-Some.processes.items) c.requires are in
    run-state-of k (record { tick = c.now.result; processes = c.in-Some.processes }) c.now.ensures.ticks all
