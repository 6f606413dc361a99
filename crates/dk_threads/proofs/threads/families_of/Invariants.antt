use Rattle.dk_threads.proofs.Names.{◌≡◌, map, range_with_len, first_family}
use Rattle.dk_threads.proofs.threads.families_of.Given as goal

abbrev pub invariant-loop-process : goal.invariant-loop-process
invariant-loop-process l = l.families.items ≡ map (first_family l.config) (range_with_len 0 l.process)
