use Rattle.dk_repeat_search.proofs.Names.{ℕ, ◌≡◌, ◌<◌, ◌≤◌, get_or, length, map, All, OwnSearch, IsOwnSearch, HasLookedBefore, LooksFor, process_of}
use Rattle.dk_repeat_search.proofs.search.look_all.Given as goal

abbrev pub invariant-loop-search : goal.invariant-loop-search
invariant-loop-search l = record {
  own : All (IsOwnSearch l.kernel.config l.kernel.programs l.kernel.ticks) l.search-items;
  seen : (i : ℕ) (d : OwnSearch) → i < l.search-index → LooksFor l.kernel l.least (get_or l.search-items i d);
  ahead : (i : ℕ) (d : OwnSearch) → i < length l.search-items → l.search-index ≤ i → HasLookedBefore l.kernel l.kernel.ticks (get_or l.search-items i d);
  same : map process_of l.search-items ≡ map process_of l.initial.search-items;
  later : 1 ≤ l.least;
}
