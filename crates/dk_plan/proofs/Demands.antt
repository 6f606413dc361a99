-- What the levels need, with and without the process's budget.
use Rattle.dk_plan.proofs.Names.{◌≡◌, ◌∙◌, ap, refl, ℕ, zero, suc, ◌+◌, ◌*◌, ◌/◌, ◌<◌, ◌≤◌, length, arith, add-one, zero-add, filter_agree, most_work, sum_from, Configuration, period, release, main_level, budgets_at, level_demand, level_blocking, sum_from-more, with_budget, work_at, nat_tests}
use Rattle.dk_plan.proofs.Rows.{budgets-with, own_here, own_elsewhere, list_any-rows_with_budget}

pub sum_below-more : (n : ℕ) (f : ℕ → ℕ) → sum_from 0 (n + 1) f ≡ sum_from 0 n f + f n
sum_below-more n f = ap (λ k. sum_from 0 k f) (add-one n) ∙ sum_from-more 0 n f ∙ ap (λ k. sum_from 0 n f + f k) (zero-add n)

-- the work of the levels before this one is added up
pub record DemandSoFar (work : ℕ → ℕ) (faster demand : ℕ) : Type 0 where
  pub so_far : demand ≡ sum_from 0 faster work
  pub few : demand ≤ faster * most_work

module _ (work : ℕ → ℕ) (faster demand : ℕ) (before : DemandSoFar work faster demand) where
  pub demand_step : (more : ℕ) → more ≡ work faster → more ≤ most_work → DemandSoFar work (faster + 1) (demand + more)
  demand_step more is few = record {
    so_far = let so_far = before.so_far in let next = sum_below-more faster work in omega (arith, so_far, is, next);
    few = let bounded = before.few in omega (arith, bounded, few);
  }

  pub whole_demand : (level : ℕ) → faster ≤ level + 1 → level + 1 ≤ faster → demand ≡ sum_from 0 (suc level) work
  whole_demand level most least = before.so_far ∙ ap (λ n. sum_from 0 n work) (let all : faster ≡ suc level = omega (arith, most, least) in all)

pub sum_same : (f g : ℕ → ℕ) (low n : ℕ) → ((i : ℕ) → low ≤ i → i < low + n → g i ≡ f i) → sum_from low n g ≡ sum_from low n f
sum_same f g low zero each = refl
sum_same f g low (suc n) each = grind (arith, nat_tests, sum_same f g (suc low) n)

-- one number of the sum is greater
pub sum_one_more : (f g : ℕ → ℕ) (m more low n : ℕ) → ((i : ℕ) → (m ≡ i → ⊥) → g i ≡ f i) → g m ≡ f m + more → low ≤ m → m < low + n
    → sum_from low n g ≡ sum_from low n f + more
sum_one_more f g m more low zero others own a b = absurd (omega arith)
sum_one_more f g m more low (suc n) others own a b = grind (arith, nat_tests, own_here, sum_same, sum_one_more f g m more (suc low) n)

module _ (c : Configuration) (p : ℕ) (inside : p < length c.processes) (b : ℕ) where
  abbrev work : ℕ → ℕ → ℕ
  work j i = work_at (with_budget c p b) j i

  abbrev others_work : ℕ → ℕ → ℕ
  others_work j i = work_at (with_budget c p 0) j i

  other_level : (j i : ℕ) → (main_level c p ≡ i → ⊥) → work j i ≡ others_work j i
  other_level j i elsewhere =
      let with = budgets-with i b c.processes p inside in
      let none = own_elsewhere (main_level c p) i b elsewhere in
      let same : budgets_at (with_budget c p b) i ≡ budgets_at (with_budget c p 0) i = omega (arith, with, none) in
      ap (λ n. (release c i + n) * (period c j / period c i)) same

  own_level : (j : ℕ) → work j (main_level c p) ≡ others_work j (main_level c p) + b * (period c j / period c (main_level c p))
  own_level j =
      let m = main_level c p in
      let with = budgets-with m b c.processes p inside in
      let own = own_here m m b refl in
      let same : budgets_at (with_budget c p b) m ≡ budgets_at (with_budget c p 0) m + b = omega (arith, with, own) in
      ap (λ n. (release c m + n) * (period c j / period c m)) same ∙ add_up (release c m) (budgets_at (with_budget c p 0) m) b (period c j / period c m)
    where
      add_up : (r s b w : ℕ) → (r + (s + b)) * w ≡ (r + s) * w + b * w
      add_up r s b w = grind arith

  -- a level faster than the process needs the same whatever the budget
  pub demand-before : (j : ℕ) → j < main_level c p → level_demand (with_budget c p b) j ≡ level_demand (with_budget c p 0) j
  demand-before j h = sum_same (others_work j) (work j) 0 (suc j) (λ i low high. other_level j i (λ same. omega arith))

  -- the others need the budget once in each window of the process's level
  pub demand-from : (j : ℕ) → main_level c p ≤ j → level_demand (with_budget c p b) j ≡ level_demand (with_budget c p 0) j + b * (period c j / period c (main_level c p))
  demand-from j h =
      sum_one_more (others_work j) (work j) (main_level c p) (b * (period c j / period c (main_level c p))) 0 (suc j) (other_level j) (own_level j) (omega arith) (omega arith)

  -- the budgets play no part in blocking
  pub blocking-same : (j : ℕ) → level_blocking (with_budget c p b) j ≡ level_blocking c j
  blocking-same j = grind (arith, nat_tests, filter_agree, list_any-rows_with_budget)
