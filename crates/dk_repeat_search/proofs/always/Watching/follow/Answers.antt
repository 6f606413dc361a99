use Rattle.dk_repeat_search.proofs.Names.{◌≡◌, ◌+◌, ◌<◌, ◌≤◌, ◌∙◌, ◌∷◌, length, sym, ap, arith, trace, Running, trace_of, IsWaitWatch, watched_process}
use Rattle.dk_repeat_search.proofs.Places.{set-same}
use Rattle.dk_repeat_search.proofs.Watching.{ahead-more, seen-more}
use Rattle.dk_repeat_search.proofs.always.Watching.follow.Goals as goal

pub loop-watch-preserved : goal.loop-watch-preserved
loop-watch-preserved g c =
    let k = c.args.kernel.now in
    let items = c.loop-watch.watch-items in
    let i = c.loop-watch.watch-index in
    let new = c.follow.new.self in
    let less : i < length items = omega arith in
    let here : i ≤ i = omega arith in
    let next : trace k.config k.programs (k.ticks + 1) ≡ c.follow-entry.result ∷ trace k.config k.programs k.ticks =
    sym (ap (λ (r : Running). trace_of r) c.follow-entry.ensures.next) ∙ c.follow-entry.ensures.entry in
    record {
      seen = seen-more (IsWaitWatch k.config k.programs (k.ticks + 1)) items i new less c.loop-watch.invariant.seen
          (c.follow.ensures.watches k.config k.programs k.ticks (c.loop-watch.invariant.ahead i _ less here) next);
      ahead = ahead-more (IsWaitWatch k.config k.programs k.ticks) items i new c.loop-watch.invariant.ahead;
      same = set-same watched_process items i _ new less c.follow.ensures.process ∙ c.loop-watch.invariant.same;
    }
