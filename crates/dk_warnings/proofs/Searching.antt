-- A search among numbers, one after the other.
use Rattle.dk_warnings.proofs.Names.{ℕ, zero, suc, ◌≡◌, ◌+◌, ◌-◌, ◌<◌, ◌≤◌, Bool, true, false, ap, arith, find, Option, Some, None, numbers, nat_tests}

-- the numbers from i on up to before n
here : (i n : ℕ) → i < n → numbers i (n - i) ≡ numbers i (suc (n - (i + 1)))
here i n below = let count : n - i ≡ suc (n - (i + 1)) = omega arith in ap (numbers i) count

pub goes_on : (test : ℕ → Bool) (i n : ℕ) (whole : Option ℕ) → i < n → test i ≡ false → whole ≡ find test (numbers i (n - i))
    → whole ≡ find test (numbers (i + 1) (n - (i + 1)))
goes_on test i n whole below off so_far = grind (arith, nat_tests, here)

pub ends_here : (test : ℕ → Bool) (i n : ℕ) (whole : Option ℕ) → i < n → test i ≡ true → whole ≡ find test (numbers i (n - i)) → Some i ≡ whole
ends_here test i n whole below on so_far = grind (arith, nat_tests, here)

pub ends_without : (test : ℕ → Bool) (i n : ℕ) (whole : Option ℕ) → i ≡ n → whole ≡ find test (numbers i (n - i)) → None ≡ whole
ends_without test i n whole all so_far = grind (arith, nat_tests)

-- what is found comes first
pub none-before : (test : ℕ → Bool) (low n level : ℕ) → find test (numbers low n) ≡ Some level → (j : ℕ) → low ≤ j → j < level → test j ≡ false
none-before test low zero level found j from before = absurd (cc)
none-before test low (suc n) level found j from before = grind (arith, nat_tests, none-before test (suc low) n level)
