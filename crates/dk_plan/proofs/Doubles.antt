-- The greatest double of a base up to a period: what it is, and that a base and its double have the same.
use Rattle.dk_plan.proofs.Names.{◌≡◌, ◌∙◌, sym, ap, ℕ, zero, suc, ◌+◌, ◌-◌, ◌*◌, ◌^◌, ◌<◌, ◌≤◌, ◌⊎◌, inl, inr, Bool, true, List, ◌∷◌, map, filter, arith, subst, nat_le, if◌then◌else◌, mul-le-mul_left, mul-le-mul_right, pow-le-pow_right, pow-suc, pow-add, numbers, greatest, Gets, nat_tests}
use Rattle.dk_plan.specs.Base.{period_got}

above : (k : ℕ) → k < 2 ^ k
above zero = omega arith
above (suc k) = let more = above k in rw pow-suc (omega (arith, more))

doubles_rise : (base i k : ℕ) → i ≤ k → base * 2 ^ i ≤ base * 2 ^ k
doubles_rise base i k h = mul-le-mul_left base (pow-le-pow_right {n = 2} (omega arith) h)

pub doubled_more : (base k : ℕ) → base * 2 ^ suc k ≡ 2 * (base * 2 ^ k)
doubled_more base k = grind (arith, pow-suc)

double_first : (base k : ℕ) → 2 * base * 2 ^ k ≡ base * 2 ^ suc k
double_first base k = grind (arith, pow-suc)

-- a test lets the first of a list through, or not
first_at_most : (b : Bool) (x most : ℕ) (xs : List ℕ) → (b ≡ true → x ≤ most) → greatest xs ≤ most → greatest (if b then (x ∷ xs) else xs) ≤ most
first_at_most b x most xs h later = grind (arith, nat_tests)

first_counts : (b : Bool) (x : ℕ) (xs : List ℕ) → b ≡ true → x ≤ greatest (if b then (x ∷ xs) else xs)
first_counts b x xs h = grind (arith, nat_tests)

later_counts : (b : Bool) (x y : ℕ) (xs : List ℕ) → y ≤ greatest xs → y ≤ greatest (if b then (x ∷ xs) else xs)
later_counts b x y xs h = grind (arith, nat_tests)

here_or_later : (low k : ℕ) → low ≤ k → (low ≡ k) ⊎ (low < k)
here_or_later low k h = grind arith

module _ (asked : ℕ) (f : ℕ → ℕ) where
  at_most : (most : ℕ) → ((k : ℕ) → f k ≤ asked → f k ≤ most) → (from count : ℕ) → greatest (filter (λ q. nat_le q asked) (map f (numbers from count))) ≤ most
  at_most most each from zero = omega arith
  at_most most each from (suc count) = grind (arith, nat_tests, at_most most each (suc from) count)

  at_least : (k from count : ℕ) → f k ≤ asked → from ≤ k → k < from + count → f k ≤ greatest (filter (λ q. nat_le q asked) (map f (numbers from count)))
  at_least k from zero h a b = absurd (omega arith)
  at_least k from (suc count) h a b = grind (arith, nat_tests, at_least k (suc from) count)

less_or_not : (i k : ℕ) → (i ≤ k) ⊎ (k < i)
less_or_not i k = grind arith

-- a double up to the period whose double is longer
pub record IsLongest (base asked k : ℕ) : Type 0 where
  pub within : base * 2 ^ k ≤ asked
  pub next : asked < 2 * (base * 2 ^ k)

no_longer : (base asked k : ℕ) → IsLongest base asked k → (i : ℕ) → base * 2 ^ i ≤ asked → base * 2 ^ i ≤ base * 2 ^ k
no_longer base asked k is i h =
    elim (less_or_not i k) [
      | inl before ↦ doubles_rise base i k before
      | inr after ↦
          let rise = doubles_rise base (suc k) i after in
          let next = is.next in
          absurd (omega (arith, rise, next, doubled_more base k, h))
    ]

-- it is what an ask gets
pub period_got-longest : (base asked k : ℕ) → 1 ≤ base → IsLongest base asked k → period_got base asked ≡ base * 2 ^ k
unfolding period_got
period_got-longest base asked k some is =
    let most = at_most asked (λ i. base * 2 ^ i) (base * 2 ^ k) (no_longer base asked k is) 0 (suc asked) in
    let wide = mul-le-mul_right (2 ^ k) some in
    let before : k < 0 + suc asked = let more = above k in let within = is.within in omega (arith, more, wide, within) in
    let least = at_least asked (λ i. base * 2 ^ i) k 0 (suc asked) is.within (omega arith) before in
    omega (arith, most, least)

-- each period from the base on has one
longest_below : (base asked n : ℕ) → base ≤ asked → asked < base * 2 ^ n → (k : ℕ) × IsLongest base asked k
longest_below base asked zero fits short = absurd (omega arith)
longest_below base asked (suc n) fits short =
    elim (here_or_below (base * 2 ^ n) asked) [
      | inl here ↦ (n, record { within = here; next = omega (arith, doubled_more base n) })
      | inr below ↦ longest_below base asked n fits below
    ]
  where
    here_or_below : (a b : ℕ) → (a ≤ b) ⊎ (b < a)
    here_or_below a b = grind arith

pub longest_of : (base asked : ℕ) → 1 ≤ base → base ≤ asked → (k : ℕ) × IsLongest base asked k
longest_of base asked some fits =
    let wide = mul-le-mul_right (2 ^ asked) some in
    longest_below base asked asked fits (let more = above asked in omega (arith, more, wide))

-- what the search for it ends with
module _ (base asked got : ℕ) (some : 1 ≤ base) (doubled : (k : ℕ) × (got ≡ base * 2 ^ k)) (within : got ≤ asked) (next : asked < 2 * got) where
  is_longest : IsLongest base asked doubled.0
  is_longest = record { within = subst (λ n. n ≤ asked) doubled.1 within; next = subst (λ n. asked < 2 * n) doubled.1 next }

  pub found : got ≡ period_got base asked
  found = doubled.1 ∙ sym (period_got-longest base asked doubled.0 some is_longest)

  pub gets : Gets base asked got
  gets = record {
    doubled = doubled;
    within = within;
    longest = λ i h. subst (λ n. base * 2 ^ i ≤ n) (sym doubled.1) (no_longer base asked doubled.0 is_longest i h);
  }

module _ (base asked : ℕ) (some : 1 ≤ base) (fits : base ≤ asked) where
  -- an ask gets a double of the base
  pub period_got-double : (k : ℕ) × (period_got base asked ≡ base * 2 ^ k)
  period_got-double = let (k, is) = longest_of base asked some fits in (k, period_got-longest base asked k some is)

  pub period_got-positive : 1 ≤ period_got base asked
  period_got-positive = grind (arith, nat_tests, period_got-double, mul-le-mul_right, above)

-- the base's double gives the same
pub period_got-of_double : (base asked : ℕ) → 1 ≤ base → 2 * base ≤ asked → period_got (2 * base) asked ≡ period_got base asked
period_got-of_double base asked some fits =
    let (k, is) = longest_of (2 * base) asked (omega arith) fits in
    let same : 2 * base * 2 ^ k ≡ base * 2 ^ suc k = double_first base k in
    let own : IsLongest base asked (suc k) = record { within = subst (λ n. n ≤ asked) same is.within; next = subst (λ n. asked < 2 * n) same is.next } in
    period_got-longest (2 * base) asked k (omega arith) is ∙ same ∙ sym (period_got-longest base asked (suc k) some own)

-- of two doubles of a base the greater is a multiple of the other
pub double_divides : (base i k : ℕ) → 1 ≤ base → base * 2 ^ i ≤ base * 2 ^ k → (r : ℕ) × (base * 2 ^ k ≡ r * (base * 2 ^ i))
double_divides base i k some h =
    elim (less_or_not i k) [
      | inl before ↦
          let same : i + (k - i) ≡ k = omega arith in
          (2 ^ (k - i), ap (λ n. base * 2 ^ n) (sym same) ∙ ap (λ n. base * n) (pow-add 2 i (k - i)) ∙ regroup base (2 ^ i) (2 ^ (k - i)))
      | inr after ↦
          let rise = doubles_rise base (suc k) i after in
          let wide = mul-le-mul_right (2 ^ k) some in
          let more = above k in
          absurd (omega (arith, rise, doubled_more base k, wide, more, h))
    ]
  where
    regroup : (a b c : ℕ) → a * (b * c) ≡ c * (a * b)
    regroup a b c = grind arith
