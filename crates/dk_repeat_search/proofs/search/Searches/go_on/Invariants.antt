use Rattle.dk_repeat_search.proofs.Names.{ℕ, ◌≡◌, ◌+◌, HaveLooked, IsSearching}
use Rattle.dk_repeat_search.proofs.search.Searches.go_on.Given as goal

abbrev pub invariant-loop-left : goal.invariant-loop-left
invariant-loop-left g l = record {
  is : IsSearching l.kernel l.self;
  looked : (n : ℕ) → HaveLooked l.initial.kernel n l.initial.self → HaveLooked l.kernel n l.self;
  same : l.kernel ≡ record l.initial.kernel { ticks = l.kernel.ticks };
  count : l.kernel.ticks + l.left ≡ l.initial.kernel.ticks + l.ticks;
}

abbrev pub decreases-loop-left : goal.decreases-loop-left
decreases-loop-left g l = l.left
