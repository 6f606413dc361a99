use Rattle.dk_repeat_search.proofs.Names.{◌≡◌, map, All, range_with_len, IsOwnSearch, HasLookedBefore, begun, process_of}
use Rattle.dk_repeat_search.proofs.search.own_searches.Given as goal

abbrev pub invariant-loop-process : goal.invariant-loop-process
invariant-loop-process l = record {
  all : All (IsOwnSearch l.loaded.config l.loaded.programs 0) l.own.items;
  looked : All (HasLookedBefore (begun l.loaded) 0) l.own.items;
  processes : map process_of l.own.items ≡ range_with_len 0 l.process;
}
