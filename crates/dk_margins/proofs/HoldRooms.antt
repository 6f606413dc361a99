-- How long a level waits with another hold for a mutex.
use Rattle.dk_margins.proofs.Names.{◌≡◌, refl, ℕ, zero, suc, ◌+◌, ◌<◌, max, cond, List, [], ◌∷◌, length, take, drop, arith, Some, slice_get, map, filter, Configuration, Mutex, greatest, period, level_demand, level_blocking, can_block, row_at, rows_with_hold, with_hold, HoldFits, nat_tests}
use Rattle.std.proofs.Common.{Bool}

-- the greatest hold of the rows that a test passes
abbrev pub longest : (Mutex → Bool) → List Mutex → ℕ
longest test rows = greatest (map (λ mutex. mutex.hold) (filter test rows))

longest-cons : (test : Mutex → Bool) (row : Mutex) (rows : List Mutex) → longest test (row ∷ rows) ≡ max (cond (test row) row.hold 0) (longest test rows)
longest-cons test row rows = grind (arith, nat_tests)

module _ (test : Mutex → Bool) (same : (row : Mutex) (h : ℕ) → test (record row { hold = h }) ≡ test row) (h : ℕ) where
  pub longest-with : (rows : List Mutex) (m : ℕ) (row : Mutex) → slice_get rows m ≡ Some row
      → longest test (rows_with_hold rows m h) ≡ max (max (longest test (take m rows)) (longest test (drop (suc m) rows))) (cond (test row) h 0)
  longest-with [] m row there = absurd (cc)
  longest-with (first ∷ rows) zero row there = grind (arith, nat_tests)
  longest-with (first ∷ rows) (suc m) row there = grind (arith, nat_tests, longest-with rows m)

none-of : (b : Bool) → cond b zero zero ≡ zero
none-of b = grind (arith, nat_tests)

module _ (c : Configuration) (m j : ℕ) (row : Mutex) (there : slice_get c.mutexes m ≡ Some row) where
  -- the longest hold of the others, and of the mutex where it can delay the level
  pub blocking-with : (h : ℕ) → level_blocking (with_hold c m h) j
      ≡ max (max (longest (can_block c j) (take m c.mutexes)) (longest (can_block c j) (drop (suc m) c.mutexes))) (cond (can_block c j row) h 0)
  blocking-with h = longest-with (can_block c j) (λ r k. refl) h c.mutexes m row there

  -- with no hold it is the longest of the others
  pub blocking-without : level_blocking (with_hold c m 0) j ≡ max (longest (can_block c j) (take m c.mutexes)) (longest (can_block c j) (drop (suc m) c.mutexes))
  blocking-without = let is = blocking-with 0 in let none = none-of (can_block c j row) in omega (arith, is, none)

  pub blocking-more : (h : ℕ) → level_blocking (with_hold c m h) j ≡ max (level_blocking (with_hold c m 0) j) (cond (can_block c j row) h 0)
  blocking-more h = let is = blocking-with h in let others = blocking-without in omega (arith, is, others)

-- a level that waits too long for the others fits with no hold
pub none_fits : (c : Configuration) (m j : ℕ) → m < length c.mutexes → period c j < level_demand c j + level_blocking (with_hold c m 0) j → (h : ℕ) → HoldFits c m j h → ⊥
none_fits c m j inside short h fits =
    let at = row_at c.mutexes m inside in
    let is = blocking-more c m j at.0 at.1 h in
    omega (arith, is, short, fits)
