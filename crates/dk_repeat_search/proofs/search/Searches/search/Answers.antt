use Rattle.dk_repeat_search.proofs.Names.{◌≡◌, ◌+◌, ◌≤◌, ap, arith, sym, subst, Running, HaveLooked}
use Rattle.dk_repeat_search.proofs.Looking.{all-done, run-done}
use Rattle.dk_repeat_search.proofs.search.Searches.search.Goals as goal

pub look-requires-in-loop-left-clause-looked : goal.look-requires-in-loop-left-clause-looked
look-requires-in-loop-left-clause-looked g c =
    let l = c.loop-left in
    let few = c.lesser-few.result in
    let more = c.loop-left-test.true in
    let some : 1 ≤ few = c.lesser-few.ensures.some l.invariant.later (omega (arith, more)) in
    let next : c.go_on.new.kernel.ticks ≡ l.kernel.ticks + few = ap (λ (r : Running). r.ticks) c.go_on.ensures.next in
    subst (λ n. HaveLooked c.go_on.new.kernel n c.go_on.new.self) (sym next)
    (c.go_on.ensures.looked (l.kernel.ticks + few) (l.invariant.looked few some c.lesser-few.ensures.one))

pub returns-clause-looked : goal.returns-clause-looked
returns-clause-looked g c =
    let l = c.loop-left in
    let count = l.invariant.count in
    let over = c.loop-left-test.false in
    let all : l.kernel.ticks + 1 ≡ c.args.kernel.now.ticks + c.args.ticks + 1 = omega (arith, count, over) in
    subst (λ n. HaveLooked l.kernel n l.self) all (l.invariant.looked 1 (omega arith) l.invariant.later)

pub returns-then-is_done-clause-looked : goal.returns-then-is_done-clause-looked
returns-then-is_done-clause-looked g c =
    let l = c.loop-left in
    let end = c.args.kernel.now.ticks + c.args.ticks + 1 in
    let done = c.if-is_done.true in
    record { run = run-done l.kernel end l.self.run (c.is_done.ensures.run done); own = all-done l.kernel end l.self.own.items (c.is_done.ensures.own done) }
