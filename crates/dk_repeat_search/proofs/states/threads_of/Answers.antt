use Rattle.dk_repeat_search.proofs.Names.{ℕ, ◌≡◌, ◌+◌, List, sym, subst, arith, MAX_THREADS, ThreadState, AreThreads}
use Rattle.dk_repeat_search.proofs.Shown.{place-more}
use Rattle.dk_repeat_search.proofs.states.threads_of.Goals as goal

pub loop-place-init : goal.loop-place-init
loop-place-init c = c.new-threads.ensures.items

pub loop-place-preserved : goal.loop-place-preserved
loop-place-preserved c =
    let k = c.args.kernel.now in
    let p = c.args.process in
    let place = c.loop-place.place in
    subst (λ (xs : List ThreadState). AreThreads k p xs (place + 1)) (sym c.in_ok-add_thread.ensures)
    (place-more k p c.loop-place.threads.items place c.thread_at.result c.loop-place.invariant c.thread_at.ensures)

pub returns : goal.returns
returns c =
    let end : ℕ = MAX_THREADS in
    let last : c.loop-place.place ≡ end = omega (arith, c.loop-place-test.false, c.loop-place.auto.place-end) in
    subst (λ n. AreThreads c.args.kernel.now c.args.process c.loop-place.threads.items n) last c.loop-place.invariant
