-- Sums over the starts of windows, which are a period apart.
use Rattle.dk_budget.proofs.Names.{◌≡◌, ◌∙◌, ◌<◌, ◌+◌, ◌-◌, ◌*◌, ◌/◌, ℕ, zero, suc, true, false, min, ap, sym, arith, inl, inr, nat_lt, if◌then◌else◌, div-eq_of_lt, cases_lt, nat_tests, sum_every}

pub sum_every-times : (step first n q : ℕ) (f : ℕ → ℕ) → sum_every step first n (λ s. q * f s) ≡ q * sum_every step first n f
sum_every-times step first zero q f = omega arith
sum_every-times step first (suc n) q f = let rest = sum_every-times step (first + step) n q f in omega arith

-- equal terms
pub sum_every-const : (step first n q : ℕ) → sum_every step first n (λ s. q) ≡ n * q
sum_every-const step first zero q = omega arith
sum_every-const step first (suc n) q = grind (arith, nat_tests, sum_every-const step (first + step) n)

-- so many windows hold a ticks, the last of them maybe in part
abbrev pub rounded_up : ℕ → ℕ → ℕ
rounded_up a P = (a + (P - 1)) / P

none-up : (P : ℕ) → 0 < P → rounded_up 0 P ≡ 0
none-up P positive = div-eq_of_lt (omega arith)

-- one window less
next-up : (P a : ℕ) → 0 < P → 0 < a → rounded_up a P ≡ suc (rounded_up (a - P) P)
next-up P a positive some = grind (arith, nat_tests)

-- the starts before a tick are the first of them
pub sum_every-before : (step first n tick : ℕ) (f : ℕ → ℕ) → 0 < step
    → sum_every step first n (λ s. if nat_lt s tick then f s else 0) ≡ sum_every step first (min (rounded_up (tick - first) step) n) f
sum_every-before step first zero tick f positive =
    let none : min (rounded_up (tick - first) step) 0 ≡ 0 = omega arith in
    sym (ap (λ k. sum_every step first k f) none)
sum_every-before step first (suc n) tick f positive =
    let rest = sum_every-before step (first + step) n tick f positive in
    let further : tick - (first + step) ≡ tick - first - step = omega arith in
    elim (cases_lt first tick) [
      | inl early ↦
          let test : nat_lt first tick ≡ true = grind (arith, nat_tests) in
          let some : 0 < tick - first = omega arith in
          let next : rounded_up (tick - first) step ≡ suc (rounded_up (tick - (first + step)) step) =
          next-up step (tick - first) positive some ∙ ap (λ k. suc (rounded_up k step)) (sym further) in
          let count : min (rounded_up (tick - first) step) (suc n) ≡ suc (min (rounded_up (tick - (first + step)) step) n) = omega (arith, next) in
          ap (λ b. (if b then f first else 0) + sum_every step (first + step) n (λ s. if nat_lt s tick then f s else 0)) test
          ∙ ap (λ k. f first + k) rest
          ∙ sym (ap (λ k. sum_every step first k f) count)
      | inr late ↦
          let test : nat_lt first tick ≡ false = grind (arith, nat_tests) in
          let none : tick - first ≡ 0 = omega arith in
          let none' : tick - (first + step) ≡ 0 = omega arith in
          let count : min (rounded_up (tick - first) step) (suc n) ≡ 0 =
          ap (λ k. min (rounded_up k step) (suc n)) none ∙ ap (λ k. min k (suc n)) (none-up step positive) ∙ omega arith in
          let count' : min (rounded_up (tick - (first + step)) step) n ≡ 0 =
          ap (λ k. min (rounded_up k step) n) none' ∙ ap (λ k. min k n) (none-up step positive) ∙ omega arith in
          ap (λ b. (if b then f first else 0) + sum_every step (first + step) n (λ s. if nat_lt s tick then f s else 0)) test
          ∙ ap (λ k. 0 + k) (rest ∙ ap (λ k. sum_every step (first + step) k f) count')
          ∙ sym (ap (λ k. sum_every step first k f) count)
    ]
