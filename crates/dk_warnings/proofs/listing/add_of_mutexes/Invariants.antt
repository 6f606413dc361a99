use Rattle.dk_warnings.proofs.Names.{◌≡◌, ◌++◌, flat_map, below, of_mutex}
use Rattle.dk_warnings.proofs.listing.add_of_mutexes.Given as goal

-- the warnings so far are added
abbrev pub invariant-loop-mutex : goal.invariant-loop-mutex
invariant-loop-mutex l = l.found.items ≡ l.initial.found.items ++ flat_map (of_mutex l.config) (below l.mutex)
