use Rattle.dk_repeat_search.proofs.Names.{◌≡◌, map, range_with_len, share_at}
use Rattle.dk_repeat_search.proofs.count.shares_of.Given as goal

abbrev pub invariant-loop-process : goal.invariant-loop-process
invariant-loop-process l = l.shares.items ≡ map (share_at l.loaded.config) (range_with_len 0 l.process)
