use Rattle.dk_picture.proofs.Names.{◌≡◌, ◌++◌, drop, map}
use Rattle.dk_picture.proofs.promise.names_of.Given as goal

-- the names so far, before those of the mutexes that are left
abbrev pub invariant-loop-mutex : goal.invariant-loop-mutex
invariant-loop-mutex l =
    l.names.items ++ map (λ m. m.name) (drop l.mutex-index l.mutexes) ≡ map (λ m. m.name) l.mutexes
