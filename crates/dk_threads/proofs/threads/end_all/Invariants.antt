use Rattle.dk_threads.proofs.Names.{◌≡◌, ◌++◌, take, drop, map, family_ended}
use Rattle.dk_threads.proofs.threads.end_all.Given as goal

abbrev pub invariant-loop-family : goal.invariant-loop-family
invariant-loop-family l =
    l.family-items ≡ map (family_ended l.now) (take l.family-index l.initial.family-items) ++ drop l.family-index l.initial.family-items
