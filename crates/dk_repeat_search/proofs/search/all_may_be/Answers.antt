use Rattle.dk_repeat_search.proofs.Names.{◌≡◌, ◌<◌, length, arith, refl, slice_get, Some, slice_get_read}
use Rattle.dk_repeat_search.proofs.search.all_may_be.Goals as goal

pub returns-then-not-may_be : goal.returns-then-not-may_be
returns-then-not-may_be c = λ off.
    let k = c.args.kernel.now in
    let states = c.args.states.now in
    let p = c.loop-process.process in
    let state = c.in-Some.state.now in
    let found = c.in-Some.ensures.lookup in
    let known : p < length k.config.processes = omega (arith, c.loop-process-test.true, c.requires) in
    let there : slice_get states p ≡ Some state = slice_get_read states (length states) p state refl found.3.0 (found.3.1 state) in
    record { process = p; state = state; known = known; there = there; is = c.may_be.ensures c.if-not-may_be.true }
