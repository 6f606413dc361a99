-- What the levels need at tick 0.
use Rattle.dk_bound.proofs.Names.{ℕ, zero, suc, ◌≡◌, ◌+◌, ◌*◌, ◌/◌, ◌<◌, ◌≤◌, ◌⊎◌, inl, inr, Bool, true, false, cond, eqb, leb, [], length, refl, sym, ap, ◌∙◌, arith, sum_by, ◌∣◌, cases_Bool, nat_tests, zero-mod, Configuration, IsChecked, sum_from, period, release, main_level, budget, window_end, window, Thread, threads, family, main_thread, share, thread_rem, kernel_rem, sum_starts, windows_left, kernel_demand, thread_demand, StartsWithBudgets, StartsWithDemand, begins-together, left-at_start, sum_from-eq, sum_every-same, window-begins, sum_by-flat, budget_at, budgets_at-sum, level_demand-sum}

no-window : (c : Configuration) (i : ℕ) → window c 0 [] i ≡ []
no-window c i = window-begins c [] i (zero-mod (period c i))

kernel-start : (c : Configuration) (i : ℕ) → kernel_rem c 0 [] i ≡ release c i
kernel-start c i = rw (no-window c i) (omega arith)

main-share : (c : Configuration) (p s : ℕ) → share c [] (main_thread c p) s ≡ budget c p
main-share c p s = omega arith

main-rem : (c : Configuration) (p : ℕ) → thread_rem c 0 [] (main_thread c p) ≡ budget c p
main-rem c p = rw (no-window c (main_level c p)) (omega arith)

sum-family : (c : Configuration) (f : Thread → ℕ) (p : ℕ) → sum_by f (family c p []) ≡ f (main_thread c p)
sum-family c f p = omega arith

sum-threads : (c : Configuration) (f : Thread → ℕ) → sum_by f (threads c []) ≡ sum_from 0 (length c.processes) (λ p. f (main_thread c p))
sum-threads c f = grind (arith, nat_tests, sum_by-flat, sum_from-eq, sum-family)

pub starts_with_budgets : (c : Configuration) → StartsWithBudgets c
starts_with_budgets c j known =
    let each : (p : ℕ) → cond (eqb (main_level c p) j) (thread_rem c 0 [] (main_thread c p)) 0 ≡ budget_at c j p =
    λ p. ap (λ k. cond (eqb (main_level c p) j) k 0) (main-rem c p) in
    let sums = sum-threads c (λ x. cond (eqb x.level j) (thread_rem c 0 [] x) 0) in
    let same = sum_from-eq 0 (length c.processes) (λ p. cond (eqb (main_level c p) j) (thread_rem c 0 [] (main_thread c p)) 0) (budget_at c j) each in
    let kernel = kernel-start c j in
    let budgets = budgets_at-sum c j in
    omega (arith, sums, same, kernel, budgets)

-- where a window begins, as many more as fit the slower one begin
sum-start : (c : Configuration) (i j b : ℕ) (f : ℕ → ℕ) → 0 < period c i → period c i ∣ period c j → 0 < period c j → ((s : ℕ) → f s ≡ b)
    → b + sum_starts c i 0 (window_end c j 0) f ≡ b * (period c j / period c i)
sum-start c i j b f short divides long same =
    let begins = zero-mod (period c j) in
    let count : windows_left c i 0 (window_end c j 0) + 1 ≡ period c j / period c i =
    left-at_start 0 (period c i) (period c j) short divides long begins (begins-together 0 (period c i) (period c j) divides begins) in
    let sums = sum_every-same (period c i) (window_end c i 0) (windows_left c i 0 (window_end c j 0)) b f (λ s low high. same s) short in
    rw (← count) (omega (arith, sums))

kernel-demand : (c : Configuration) (i j : ℕ) → 0 < period c i → period c i ∣ period c j → 0 < period c j
    → kernel_demand c 0 [] (window_end c j 0) i ≡ release c i * (period c j / period c i)
kernel-demand c i j short divides long = grind (arith, nat_tests, kernel-start, sum-start)

-- one term of a sum
no-term : (low n m : ℕ) (f : ℕ → ℕ) → (m < low) → sum_from low n (λ i. cond (eqb m i) (f i) 0) ≡ 0
no-term low zero m f out = refl
no-term low (suc n) m f out = grind (arith, nat_tests, no-term (suc low) n)

one-term : (low n m : ℕ) (f : ℕ → ℕ) → low ≤ m → m < low + n → sum_from low n (λ i. cond (eqb m i) (f i) 0) ≡ f m
one-term low zero m f above within = absurd (omega arith)
one-term low (suc n) m f above within = grind (arith, nat_tests, no-term, one-term (suc low) n)

late-term : (low n m : ℕ) (f : ℕ → ℕ) → low + n ≤ m → sum_from low n (λ i. cond (eqb m i) (f i) 0) ≡ 0
late-term low zero m f out = refl
late-term low (suc n) m f out = grind (arith, nat_tests, late-term (suc low) n)

times-cond : (b : Bool) (x k : ℕ) → cond b x 0 * k ≡ cond b (x * k) 0
times-cond b x k = grind (arith, nat_tests)

budget-terms : (c : Configuration) (p j : ℕ)
    → sum_from 0 (suc j) (λ i. budget_at c i p * (period c j / period c i))
    ≡ cond (leb (main_level c p) j) (budget c p * (period c j / period c (main_level c p))) 0
budget-terms c p j =
    let f : ℕ → ℕ = λ i. budget c p * (period c j / period c i) in
    sum_from-eq 0 (suc j) (λ i. budget_at c i p * (period c j / period c i)) (λ i. cond (eqb (main_level c p) i) (f i) 0)
    (λ i. times-cond (eqb (main_level c p) i) (budget c p) (period c j / period c i))
    ∙ at (cases_Bool (leb (main_level c p) j))
  where
    at : (leb (main_level c p) j ≡ true) ⊎ (leb (main_level c p) j ≡ false)
        → sum_from 0 (suc j) (λ i. cond (eqb (main_level c p) i) (budget c p * (period c j / period c i)) 0)
        ≡ cond (leb (main_level c p) j) (budget c p * (period c j / period c (main_level c p))) 0
    at (inl fast) =
        let le : main_level c p ≤ j = grind (arith, nat_tests) in
        one-term 0 (suc j) (main_level c p) (λ i. budget c p * (period c j / period c i)) (omega arith) (omega arith) ∙ rw fast refl
    at (inr slow) =
        let more : j < main_level c p = grind (arith, nat_tests) in
        late-term 0 (suc j) (main_level c p) (λ i. budget c p * (period c j / period c i)) (omega arith) ∙ rw slow refl

pub starts_with_demand : (c : Configuration) → IsChecked c → StartsWithDemand c
starts_with_demand c checked j known =
    let N = length c.processes in
    let end = window_end c j 0 in
    let part : Thread → ℕ = λ x. cond (leb x.level j) (thread_demand c 0 [] end x) 0 in
    let kernel : sum_from 0 (suc j) (kernel_demand c 0 [] end) ≡ sum_from 0 (suc j) (λ i. release c i * (period c j / period c i)) =
    kernels 0 (suc j) (omega arith) in
    let each : sum_from 0 N (λ p. part (main_thread c p)) ≡ sum_from 0 N (λ p. sum_from 0 (suc j) (λ i. budget_at c i p * (period c j / period c i))) =
    mains 0 N (omega arith) in
    let sums = sum-threads c part in
    let whole = level_demand-sum c j in
    omega (arith, kernel, each, sums, whole)
  where
    kernels : (low n : ℕ) → low + n ≤ suc j
        → sum_from low n (kernel_demand c 0 [] (window_end c j 0)) ≡ sum_from low n (λ i. release c i * (period c j / period c i))
    kernels low zero within = refl
    kernels low (suc n) within =
        let here = kernel-demand c low j (checked.positive low (omega arith)) (checked.divides low j (omega arith) known) (checked.positive j known) in
        let rest = kernels (suc low) n (omega arith) in
        omega (arith, here, rest)

    main-part : (p : ℕ) → p < length c.processes → cond (leb (main_level c p) j) (thread_demand c 0 [] (window_end c j 0) (main_thread c p)) 0
        ≡ cond (leb (main_level c p) j) (budget c p * (period c j / period c (main_level c p))) 0
    main-part p here =
        elim (cases_Bool (leb (main_level c p) j)) [
          | inr slow ↦ rw slow refl
          | inl fast ↦
              let le : main_level c p ≤ j = grind (arith, nat_tests) in
              let m = main_level c p in
              let all = ap (λ k. k + sum_starts c m 0 (window_end c j 0) (share c [] (main_thread c p))) (main-rem c p)
              ∙ sum-start c m j (budget c p) (share c [] (main_thread c p)) (checked.positive m (omega arith)) (checked.divides m j le known) (checked.positive j known) (main-share c p) in
              rw fast all
        ]

    mains : (low n : ℕ) → low + n ≤ length c.processes
        → sum_from low n (λ p. cond (leb (main_level c p) j) (thread_demand c 0 [] (window_end c j 0) (main_thread c p)) 0)
        ≡ sum_from low n (λ p. sum_from 0 (suc j) (λ i. budget_at c i p * (period c j / period c i)))
    mains low zero within = refl
    mains low (suc n) within =
        let here = main-part low (omega arith) ∙ sym (budget-terms c low j) in
        let rest = mains (suc low) n (omega arith) in
        omega (arith, here, rest)
