use Rattle.dk_mutex.proofs.Names.{◌≡◌, map, range_with_len, row_of}
use Rattle.dk_mutex.proofs.mutexes.Mutexes.at_start.Given as goal

abbrev pub invariant-loop-mutex : goal.invariant-loop-mutex
invariant-loop-mutex l = l.rows.items ≡ map (row_of l.config) (range_with_len 0 l.mutex)
