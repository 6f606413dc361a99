-- The first level that is unfit, found level by level.
use Rattle.dk_demand.proofs.Names.{◌≡◌, ◌<◌, ◌≤◌, ◌+◌, ◌-◌, ℕ, Bool, true, false, arith, find, numbers, nat_tests}
use Rattle.std.proofs.Common.{Some, None}

-- a level that fails the test is passed over
pub find-next : (test : ℕ → Bool) (low high : ℕ) → low < high → test low ≡ false
    → find test (numbers low (high - low)) ≡ find test (numbers (low + 1) (high - (low + 1)))
find-next test low high inside fails = grind (arith, nat_tests)

-- and one that passes it is found
pub find-here : (test : ℕ → Bool) (low high : ℕ) → low < high → test low ≡ true → find test (numbers low (high - low)) ≡ Some low
find-here test low high inside passes = grind (arith, nat_tests)

pub find-none : (test : ℕ → Bool) (low high : ℕ) → high ≤ low → find test (numbers low (high - low)) ≡ None
find-none test low high past = grind (arith, nat_tests)
