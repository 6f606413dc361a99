use Rattle.dk_repeat_search.proofs.Names.{◌≡◌, ◌+◌, ap, sym, subst, Running, HaveLooked}
use Rattle.dk_repeat_search.proofs.always.Watching.watch.Goals as goal

pub look-requires-in-loop-step-clause-looked : goal.look-requires-in-loop-step-clause-looked
look-requires-in-loop-step-clause-looked g c =
    let k = c.loop-step.kernel in
    let next : c.follow.new.kernel.ticks ≡ k.ticks + 1 = ap (λ (r : Running). r.ticks) c.follow.ensures.next in
    subst (λ n. HaveLooked c.follow.new.kernel n c.follow.new.self.searches) (sym next) (c.follow.ensures.looked (k.ticks + 1) c.loop-step.invariant.looked)
