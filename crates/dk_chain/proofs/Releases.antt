-- The kernel's own work of one level more.
use Rattle.dk_chain.proofs.Names.{ℕ, ◌≡◌, ◌+◌, arith, sum_from, nat_tests}
use Rattle.dk_config.proofs.Counting.{sum_from-more}

pub sum_more : (n : ℕ) (f : ℕ → ℕ) → sum_from 0 (n + 1) f ≡ sum_from 0 n f + f n
sum_more n f = grind (arith, nat_tests, sum_from-more)
