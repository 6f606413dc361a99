-- Nothing of a run reads the version.
use Rattle.dk_world.proofs.Names.{ℕ, zero, suc, ◌≡◌, List, refl, Configuration, world, in_version, nat_tests, arith}

pub world_same : (version : ℕ) (c : Configuration) (programs : List (List ℕ)) (n : ℕ) → world (in_version version c) programs n ≡ world c programs n
world_same version c programs zero = refl
world_same version c programs (suc n) = grind (arith, nat_tests, world_same version c programs n)
