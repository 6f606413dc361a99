use Rattle.dk_repeat_search.proofs.Names.{◌≡◌, ◌+◌, List, [], take, trace_of, MainShare, AreCountsOf}
use Rattle.dk_repeat_search.proofs.count.count.Given as goal

abbrev pub invariant-loop-left : goal.invariant-loop-left
invariant-loop-left g l = record {
  next : l.kernel ≡ record l.fn.kernel { ticks = l.fn.kernel.ticks + l.counts.ticks };
  ticks : l.counts.ticks + l.left ≡ l.ticks;
  counts : (shares : List MainShare) → AreCountsOf shares [] l.fn.counts → AreCountsOf shares (take l.counts.ticks (trace_of l.kernel)) l.counts;
}

abbrev pub decreases-loop-left : goal.decreases-loop-left
decreases-loop-left g l = l.left
