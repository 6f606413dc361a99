-- From two runs to the process by itself in both configurations.
use Rattle.dk_impact.proofs.Names.{ℕ, World, IsSameFor, IsSameAcross, nat_tests, arith}

pub joined : (p p' : ℕ) (w v v' w' : World) → IsSameFor p w v → IsSameAcross p p' v v' → IsSameFor p' w' v' → IsSameAcross p p' w w'
joined p p' w v v' w' first across second = grind (arith, nat_tests)
