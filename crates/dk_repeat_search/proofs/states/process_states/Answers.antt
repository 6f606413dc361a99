use Rattle.dk_repeat_search.proofs.Names.{◌≡◌, ◌<◌, ◌+◌, List, sym, subst, arith, IfSome, ProcessState, AreWhole, IsWholeProcess}
use Rattle.std.specs.Prelude.{Option}
use Rattle.dk_repeat_search.proofs.Shown.{no-states, states-more}
use Rattle.dk_repeat_search.proofs.states.process_states.Goals as goal

pub loop-process-init : goal.loop-process-init
loop-process-init c = subst (λ (xs : List ProcessState). AreWhole c.args.kernel.now 0 xs) (sym c.new-states.ensures.items) (no-states c.args.kernel.now)

pub loop-process-preserved : goal.loop-process-preserved
loop-process-preserved c =
    let k = c.args.kernel.now in
    let states = c.loop-process.states.items in
    let n = c.loop-process.process in
    let new = c.in-Some.state in
    let is : IsWholeProcess k n new = subst (λ (o : Option ProcessState). IfSome o (IsWholeProcess k n)) c.in-Some.is c.in_ok-process_state.ensures.is in
    subst (λ (xs : List ProcessState). AreWhole k (n + 1) xs) (sym c.in_ok-push-in-Some.ensures.items) (states-more k states n new c.loop-process.invariant is)

pub returns-in-None-clause-there : goal.returns-in-None-clause-there
returns-in-None-clause-there c few =
    let less : c.loop-process.process < c.args.processes = omega (arith, c.loop-process-test.true) in
    let some = rw c.in-None.is at (c.in_ok-process_state.ensures.there (omega (arith, less, few))) in
    absurd (cc)

pub returns-clause-are : goal.returns-clause-are
returns-clause-are c =
    let k = c.args.kernel.now in
    let last : c.loop-process.process ≡ c.args.processes = omega (arith, c.loop-process-test.false, c.loop-process.auto.process-end) in
    subst (λ n. AreWhole k n c.loop-process.states.items) last c.loop-process.invariant
