-- Every level of the configuration of a number fits its windows: the drawn parts of the budgets take at most half of each, and the
-- fixed parts, the releases and the hold less than a third.
use Rattle.std.proofs.Common.{◌≡◌, ◌∙◌, ◌<◌, ◌≤◌, ◌+◌, ◌*◌, ◌/◌, ◌%◌, ℕ, zero, suc, true, false, Bool, arith, ap, subst, [], ◌∷◌, map}
use Rattle.std.specs.Prelude.{filter, sum_by, cond, ◌==◌, if◌then◌else◌}
use Rattle.std.proofs.Math.Nat.{mul-div_right, div_self, mul-le-mul, mul_assoc, le_refl, le-mul_of_pos_right}
use Rattle.dk_config.specs.Mutex.{Mutex}
use Rattle.dk_config.specs.Sums.{below, greatest}
use Rattle.dk_config.specs.Certification.{budgets_at, level_blocking, can_block}
use Rattle.dk_config.specs.Checked.{IsAccepted}
use Rattle.dk_gen.specs.Draws.{draw}
use Rattle.dk_gen.specs.Generated.{configuration_of, period_at, process_count, process_at, budget_of, mutex_of}
use Rattle.dk_gen.proofs.Sizes.{draw_most, few_processes, some_processes, period_least, period_doubles, budget_most, hold_most}

three_to_eight : (P : ℕ → Type 0) → P 3 → P 4 → P 5 → P 6 → P 7 → P 8 → (n : ℕ) → 3 ≤ n → n ≤ 8 → P n
three_to_eight P a b c d e f zero some few = absurd (omega arith)
three_to_eight P a b c d e f (suc zero) some few = absurd (omega arith)
three_to_eight P a b c d e f (suc (suc zero)) some few = absurd (omega arith)
three_to_eight P a b c d e f (suc (suc (suc zero))) some few = a
three_to_eight P a b c d e f (suc (suc (suc (suc zero)))) some few = b
three_to_eight P a b c d e f (suc (suc (suc (suc (suc zero))))) some few = c
three_to_eight P a b c d e f (suc (suc (suc (suc (suc (suc zero)))))) some few = d
three_to_eight P a b c d e f (suc (suc (suc (suc (suc (suc (suc zero))))))) some few = e
three_to_eight P a b c d e f (suc (suc (suc (suc (suc (suc (suc (suc zero)))))))) some few = f
three_to_eight P a b c d e f (suc (suc (suc (suc (suc (suc (suc (suc (suc n))))))))) some few = absurd (omega arith)

-- the budgets of a level's processes among the first n
abbrev budgets_among : ℕ → ℕ → ℕ → ℕ
budgets_among number i n = sum_by (λ row. if row.level == i then row.budget else 0) (map (process_at number) (below n))

-- where each budget is at most both switches and its part of half a window, those of level 0 and its release take at most two fifths
share_0 : (number p : ℕ) → 100 ≤ p → (n : ℕ) → 3 ≤ n → n ≤ 8 → ((k : ℕ) → budget_of number (3 * k) ≤ 4 + p / (2 * n)) → 5 * (3 + budgets_among number 0 n) ≤ 2 * p
share_0 number p long =
    three_to_eight (λ n. ((k : ℕ) → budget_of number (3 * k) ≤ 4 + p / (2 * n)) → 5 * (3 + budgets_among number 0 n) ≤ 2 * p)
    (λ most. omega (arith, most 0))
    (λ most. omega (arith, most 0, most 1))
    (λ most. omega (arith, most 0, most 1))
    (λ most. omega (arith, most 0, most 1))
    (λ most. omega (arith, most 0, most 1, most 2))
    (λ most. omega (arith, most 0, most 1, most 2))

-- those of level 1 at most three tenths
share_1 : (number p : ℕ) → 200 ≤ p → (n : ℕ) → 3 ≤ n → n ≤ 8 → ((k : ℕ) → budget_of number (3 * k + 1) ≤ 4 + p / (2 * n)) → 10 * (3 + budgets_among number 1 n) ≤ 3 * p
share_1 number p long =
    three_to_eight (λ n. ((k : ℕ) → budget_of number (3 * k + 1) ≤ 4 + p / (2 * n)) → 10 * (3 + budgets_among number 1 n) ≤ 3 * p)
    (λ most. omega (arith, most 0))
    (λ most. omega (arith, most 0))
    (λ most. omega (arith, most 0, most 1))
    (λ most. omega (arith, most 0, most 1))
    (λ most. omega (arith, most 0, most 1))
    (λ most. omega (arith, most 0, most 1, most 2))

-- and those of level 2 at most a quarter
share_2 : (number p : ℕ) → 400 ≤ p → (n : ℕ) → 3 ≤ n → n ≤ 8 → ((k : ℕ) → budget_of number (3 * k + 2) ≤ 4 + p / (2 * n)) → 4 * (3 + budgets_among number 2 n) ≤ p
share_2 number p long =
    three_to_eight (λ n. ((k : ℕ) → budget_of number (3 * k + 2) ≤ 4 + p / (2 * n)) → 4 * (3 + budgets_among number 2 n) ≤ p)
    (λ most. omega (arith, most 0))
    (λ most. omega (arith, most 0))
    (λ most. omega (arith, most 0))
    (λ most. omega (arith, most 0, most 1))
    (λ most. omega (arith, most 0, most 1))
    (λ most. omega (arith, most 0, most 1))

budget_of_level : (number i k : ℕ) → k % 3 ≡ i → budget_of number k ≤ 4 + period_at number i / (2 * process_count number)
budget_of_level number i k is =
    let P : ℕ → Type 0 = λ level. budget_of number k ≤ 4 + period_at number level / (2 * process_count number) in
    subst P is (budget_most number k)

-- what level i needs in one of its windows
abbrev needs : ℕ → ℕ → ℕ
needs number i = draw number (3 + i) 4 + budgets_at (configuration_of number) i

needs_0 : (number : ℕ) → 5 * needs number 0 ≤ 2 * period_at number 0
needs_0 number =
    let share = share_0 number (period_at number 0) (period_least number 0) (process_count number) (some_processes number) (few_processes number) (λ k. budget_of_level number 0 (3 * k) (omega arith)) in
    let release = draw_most number 3 3 in
    omega (arith, share, release)

needs_1 : (number : ℕ) → 10 * needs number 1 ≤ 3 * period_at number 1
needs_1 number =
    let least = period_least number 0 in
    let twice = period_doubles number 0 in
    let share = share_1 number (period_at number 1) (omega (arith, least, twice)) (process_count number) (some_processes number) (few_processes number) (λ k. budget_of_level number 1 (3 * k + 1) (omega arith)) in
    let release = draw_most number 4 3 in
    omega (arith, share, release)

needs_2 : (number : ℕ) → 4 * needs number 2 ≤ period_at number 2
needs_2 number =
    let least = period_least number 0 in
    let twice = period_doubles number 0 in
    let again = period_doubles number 1 in
    let share = share_2 number (period_at number 2) (omega (arith, least, twice, again)) (process_count number) (some_processes number) (few_processes number) (λ k. budget_of_level number 2 (3 * k + 2) (omega arith)) in
    let release = draw_most number 5 3 in
    omega (arith, share, release)

greatest_of_one : (test : Mutex → Bool) (m : Mutex) → greatest (map (λ mutex. mutex.hold) (filter test (m ∷ []))) ≤ m.hold
greatest_of_one test m = of (test m) m
  where
    of : (b : Bool) (m : Mutex) → greatest (map (λ mutex. mutex.hold) (cond b (m ∷ []) [])) ≤ m.hold
    of true m = omega arith
    of false m = omega arith

blocking : (number j : ℕ) → 20 * level_blocking (configuration_of number) j ≤ period_at number 0
blocking number j =
    let one = greatest_of_one (can_block (configuration_of number) j) (mutex_of number) in
    let hold = hold_most number in
    omega (arith, one, hold)

mul_pos : {a b : ℕ} → 0 < a → 0 < b → 0 < a * b
mul_pos {a} {b} some_a some_b = let more = le-mul_of_pos_right a some_b in omega (arith, more)

-- a window has so many of a faster level's as its period is times that level's
module _ (p a x : ℕ) (some : 0 < p) (fits_a : 5 * a ≤ 2 * p) (short : 20 * x ≤ p) where
  fits_0 : a * (p / p) + 0 + x ≤ p
  fits_0 = rw (div_self some) (omega arith)

  module _ (m b : ℕ) (some_m : 0 < m) (fits_b : 10 * b ≤ 3 * (p * m)) where
    fits_1 : a * (p * m / p) + (b * (p * m / (p * m)) + 0) + x ≤ p * m
    fits_1 =
        let first : p * m / p ≡ m = mul-div_right m some in
        let own : p * m / (p * m) ≡ 1 = div_self (mul_pos some some_m) in
        let work = mul-le-mul fits_a (le_refl m) in
        let wide = mul-le-mul (le_refl p) some_m in
        rw (first, own) (omega (arith, work, wide))

    module _ (n c : ℕ) (some_n : 0 < n) (fits_c : 4 * c ≤ p * m * n) where
      fits_2 : a * (p * m * n / p) + (b * (p * m * n / (p * m)) + (c * (p * m * n / (p * m * n)) + 0)) + x ≤ p * m * n
      fits_2 =
          let first : p * m * n / p ≡ m * n = ap (λ k. k / p) (mul_assoc p m n) ∙ mul-div_right (m * n) some in
          let second : p * m * n / (p * m) ≡ n = mul-div_right n (mul_pos some some_m) in
          let own : p * m * n / (p * m * n) ≡ 1 = div_self (mul_pos (mul_pos some some_m) some_n) in
          let work = mul-le-mul fits_a (le_refl (m * n)) in
          let more = mul-le-mul fits_b (le_refl n) in
          let wide = mul-le-mul (le_refl p) (mul_pos some_m some_n) in
          rw (first, second, own) (omega (arith, work, more, wide))

pub fits : (number : ℕ) → IsAccepted (configuration_of number)
fits number zero there = fits_0 (period_at number 0) (needs number 0) (level_blocking (configuration_of number) 0) (omega arith) (needs_0 number) (blocking number 0)
fits number (suc zero) there =
    fits_1 (period_at number 0) (needs number 0) (level_blocking (configuration_of number) 1) (omega arith) (needs_0 number) (blocking number 1)
    (2 + draw number 1 3) (needs number 1) (omega arith) (needs_1 number)
fits number (suc (suc zero)) there =
    fits_2 (period_at number 0) (needs number 0) (level_blocking (configuration_of number) 2) (omega arith) (needs_0 number) (blocking number 2)
    (2 + draw number 1 3) (needs number 1) (omega arith) (needs_1 number) (2 + draw number 2 3) (needs number 2) (omega arith) (needs_2 number)
fits number (suc (suc (suc j))) there = absurd (omega arith)
