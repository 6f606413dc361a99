use Rattle.dk_repeat_search.proofs.Names.{ℕ, ◌<◌, get_or, OwnSearch, IsDone}
use Rattle.dk_repeat_search.proofs.search.are_done.Given as goal

abbrev pub invariant-loop-search : goal.invariant-loop-search
invariant-loop-search l = (i : ℕ) (d : OwnSearch) → i < l.search-index → IsDone (get_or l.own i d)
