use Rattle.dk_repeat_search.proofs.Names.{◌≡◌, ◌∙◌, ◌+◌, ap, arith, sym, Running}
use Rattle.dk_repeat_search.proofs.search.Searches.go_on.Goals as goal

pub loop-left-preserved : goal.loop-left-preserved
loop-left-preserved g c =
    let few = c.advance-left.ensures.few in
    let count = c.loop-left.invariant.count in
    let ticks : c.advance-left.new.kernel.ticks ≡ c.loop-left.kernel.ticks + c.advance-left.result = ap (λ (r : Running). r.ticks) c.advance-left.ensures.next in
    record {
      is = c.advance-left.ensures.is;
      looked = λ n looked. c.advance-left.ensures.looked n (c.loop-left.invariant.looked n looked);
      same = c.advance-left.ensures.next ∙ ap (λ (r : Running). record r { ticks = c.loop-left.kernel.ticks + c.advance-left.result }) c.loop-left.invariant.same
          ∙ ap (λ n. record c.args.kernel.now { ticks = n }) (sym ticks);
      count = omega (arith, few, count, ticks);
    }
