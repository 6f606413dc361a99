use Rattle.dk_repeat_search.proofs.Names.{◌<◌, ◌∙◌, get_or, length, arith, All-set, IsOwnSearch, HasLookedBefore, LooksFor, process_of}
use Rattle.dk_repeat_search.proofs.Places.{set-same}
use Rattle.dk_repeat_search.proofs.Looking.{ahead-more, for-fewer, seen-more}
use Rattle.dk_repeat_search.proofs.search.look_all.Goals as goal

pub loop-search-preserved : goal.loop-search-preserved
loop-search-preserved c =
    let items = c.loop-search.search-items in
    let i = c.loop-search.search-index in
    let k = c.args.kernel.now in
    let new = c.look_at.new.search in
    let less : i < length items = omega arith in
    record {
      own = All-set (IsOwnSearch k.config k.programs k.ticks) items i new c.in_ok-look_at.ensures.own c.loop-search.invariant.own;
      seen = seen-more (LooksFor k c.lesser-least.result) items i new less
          (λ j d low. for-fewer k c.loop-search.least c.lesser-least.result (get_or items j d) c.lesser-least.ensures.one (c.loop-search.invariant.seen j d low))
          (for-fewer k c.in_ok-look_at.field-0 c.lesser-least.result new c.lesser-least.ensures.other c.in_ok-look_at.ensures.looked);
      ahead = ahead-more (HasLookedBefore k k.ticks) items i new c.loop-search.invariant.ahead;
      same = set-same process_of items i c.search-item.result new (omega arith) c.in_ok-look_at.ensures.same ∙ c.loop-search.invariant.same;
      later = c.lesser-least.ensures.some c.loop-search.invariant.later c.in_ok-look_at.ensures.later;
    }
