use Rattle.dk_repeat_search.proofs.Names.{◌≡◌, ◌+◌, ◌≤◌, AllLookFor, IsSearching}
use Rattle.dk_repeat_search.proofs.search.Searches.search.Given as goal

abbrev pub invariant-loop-left : goal.invariant-loop-left
invariant-loop-left g l = record {
  is : IsSearching l.kernel l.self;
  looked : AllLookFor l.kernel l.wait l.self;
  same : l.kernel ≡ record l.initial.kernel { ticks = l.kernel.ticks };
  count : l.kernel.ticks + l.left ≡ l.initial.kernel.ticks + l.ticks;
  later : 1 ≤ l.wait;
}

abbrev pub decreases-loop-left : goal.decreases-loop-left
decreases-loop-left g l = l.left
