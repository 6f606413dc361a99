-- What the levels need with another release of one of them.
use Rattle.dk_margins.proofs.Names.{◌≡◌, ap, refl, ℕ, suc, ◌+◌, ◌*◌, ◌/◌, ◌<◌, ◌≤◌, length, arith, ◌↔◌, le-div_iff_mul-le, Configuration, period, release, budgets_at, level_demand, level_blocking, sum_same, sum_one_more, with_release, ReleaseFits, nat_tests}
use Rattle.dk_margins.proofs.ReleaseRules.{get-with, own-release, other-release, rows-same}

abbrev work_at : Configuration → ℕ → ℕ → ℕ
work_at c j k = (release c k + budgets_at c k) * (period c j / period c k)

same-product : (a b x x' y y' : ℕ) → a ≡ b → x ≡ x' → y ≡ y' → a * (x / y) ≡ b * (x' / y')
same-product a b x x' y y' p q s = cc

module _ (c : Configuration) (i : ℕ) (inside : i < length c.levels) where
  -- periods stay
  pub period-with : (r k : ℕ) → period (with_release c i r) k ≡ period c k
  period-with r k = get-with r (λ row. row.period) (λ row. refl) 0 c.levels i k

  others_work : (r j k : ℕ) → (i ≡ k → ⊥) → work_at (with_release c i r) j k ≡ work_at (with_release c i 0) j k
  others_work r j k apart = grind (arith, nat_tests, other-release, same-product, period-with)

  own_work : (r j : ℕ) → work_at (with_release c i r) j i ≡ work_at (with_release c i 0) j i + r * (period c j / period c i)
  own_work r j = grind (arith, nat_tests, own-release, same-product, period-with)

  -- a faster level needs the same
  pub demand-before : (r j : ℕ) → j < i → level_demand (with_release c i r) j ≡ level_demand (with_release c i 0) j
  demand-before r j h = sum_same (work_at (with_release c i 0) j) (work_at (with_release c i r) j) 0 (suc j) (λ k low high. others_work r j k (λ same. omega arith))

  -- the others need the release once in each window of its level
  pub demand-from : (r j : ℕ) → i ≤ j → level_demand (with_release c i r) j ≡ level_demand (with_release c i 0) j + r * (period c j / period c i)
  demand-from r j h =
      sum_one_more (work_at (with_release c i 0) j) (work_at (with_release c i r) j) i (r * (period c j / period c i)) 0 (suc j) (others_work r j) (own_work r j) (omega arith) (omega arith)

  -- with the release that it has, a configuration is itself
  same-with : (j : ℕ) → level_demand (with_release c i (release c i)) j ≡ level_demand c j
  same-with j = ap (λ rows. level_demand (record c { levels = rows }) j) (rows-same c.levels i)

  pub own-before : (j : ℕ) → j < i → 0 + level_demand (with_release c i 0) j ≡ level_demand c j
  own-before j h = let same = same-with j in let is = demand-before (release c i) j h in omega (arith, same, is)

  pub own-from : (j own : ℕ) → i ≤ j → own ≡ release c i * (period c j / period c i) → own + level_demand (with_release c i 0) j ≡ level_demand c j
  own-from j own h is_own = let same = same-with j in let is = demand-from (release c i) j h in omega (arith, same, is, is_own)

  -- a level that needs too much without the release fits with none
  pub none_fits : (j : ℕ) → period c j < level_demand (with_release c i 0) j + level_blocking c j → (r : ℕ) → ReleaseFits c i j r → ⊥
  none_fits j short r fits = grind (arith, nat_tests, period-with, demand-before, demand-from)

  module _ (j room : ℕ) (left : room + (level_demand (with_release c i 0) j + level_blocking c j) ≡ period c j) where
    pub any_fits : j < i → (r : ℕ) → ReleaseFits c i j r
    any_fits before r = let window = period-with r j in let demand = demand-before r j before in omega (arith, demand, window, left)

    pub release_fits : (windows : ℕ) → windows ≡ period c j / period c i → 0 < windows → i ≤ j → (r : ℕ) → ReleaseFits c i j r ↔ (r ≤ room / windows)
    release_fits windows is positive from r = grind (arith, nat_tests, period-with, demand-from, le-div_iff_mul-le)
