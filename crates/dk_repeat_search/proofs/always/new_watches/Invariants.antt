use Rattle.dk_repeat_search.proofs.Names.{◌≡◌, map, All, range_with_len, IsWaitWatch, watched_process}
use Rattle.dk_repeat_search.proofs.always.new_watches.Given as goal

abbrev pub invariant-loop-process : goal.invariant-loop-process
invariant-loop-process l = record {
  all : All (IsWaitWatch l.loaded.config l.loaded.programs 0) l.watches.items;
  processes : map watched_process l.watches.items ≡ range_with_len 0 l.process;
}
