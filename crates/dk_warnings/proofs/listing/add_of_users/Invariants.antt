use Rattle.dk_warnings.proofs.Names.{◌≡◌, ◌++◌, flat_map, below, of_user}
use Rattle.dk_warnings.proofs.listing.add_of_users.Given as goal

-- the warnings so far are added
abbrev pub invariant-loop-process : goal.invariant-loop-process
invariant-loop-process l = l.found.items ≡ l.initial.found.items ++ flat_map (of_user l.config l.mutex) (below l.process)
