-- Where a window of level j begins, the levels up to j need no more than the configuration says.
use Rattle.dk_bound.proofs.Names.{ℕ, suc, ◌≡◌, ◌+◌, ◌-◌, ◌*◌, ◌/◌, ◌%◌, ◌<◌, ◌≤◌, inl, inr, true, false, cond, eqb, leb, ltb, List, length, refl, sym, ap, ◌∙◌, arith, sum_by, Option, Some, None, option_map_or, ◌∣◌, cases_lt, nat_tests, dvd_trans, dvd_of_mod-eq-zero, Configuration, sum_from, sum_every, period, release, main_level, budget, window_end, level_demand, ThreadId, Entry, Thread, family, share, sum_starts, windows_left, thread_demand, kernel_demand, remaining_demand, Audited, begins-together, left-at_start, main_row, main_stop, sum_from-le, sum_every-at_most, kernel-begins, budget_at, term-at_level, level_demand-sum, children, child_row, lent_of, IsChecked, sum_every-below, AllFair, Has, sum_by-le, sum_by-same, sum_by-zero, sum_by-flat, dvd-end, child-of, main_stop-old, children-with-main, lent-fits, share-main, begin-order}
use Rattle.dk_trace.proofs.Families.{lent}
use Rattle.dk_bound.proofs.Promises.{claim_from, shares_between, future_of, claims_from, promise, futures-promised, futures-slow}

claim-lent_at : (c : Configuration) (j b s : ℕ) (id : ThreadId) (level quota start : ℕ) (stop : Option ℕ) → eqb id.serial 0 ≡ false
    → claim_from j b s (child_row id level quota start stop) ≤ lent_of c s (child_row id level quota start stop)
claim-lent_at c j b s id level quota start stop child = grind (arith, nat_tests)

-- a process gets no more than its budget of a window of its main
pub promise-at_most : (c : Configuration) (p j s : ℕ) (past : List Entry) (firsts : ℕ → ℕ) → IsChecked c → p < length c.processes
    → AllFair c past → Audited c past → length past ≤ s → promise c p j past firsts s ≤ budget c p
promise-at_most c p j s past firsts checked here fair audited le = go (main_stop p past) refl
  where
    go : (stop : Option ℕ) → main_stop p past ≡ stop → promise c p j past firsts s ≤ budget c p
    go None is =
        let room = lent-fits c p past s checked here audited le in
        let main : share c past (main_row c p past) s ≡ budget c p - lent c p past s =
        share-main c p past s ∙ ap (λ o. cond (option_map_or (λ t. ltb t s) o false) 0 (budget c p - lent c p past s)) is in
        let less : claims_from c p j past firsts s ≤ lent c p past s =
        sum_by-le (λ y. claim_from j (firsts y.level) s y) (lent_of c s) (children c p past)
        (λ y h. claim-lent_at c j (firsts y.level) s y.id y.level y.quota y.start y.stop (child-of c p past y checked here audited h).row.no_main) in
        omega (arith, room, main, less)
    go (Some t) is =
        let old : t < length past = main_stop-old p past t is in
        let a : ltb t s ≡ true = grind (arith, nat_tests) in
        let main : share c past (main_row c p past) s ≡ 0 =
        share-main c p past s ∙ ap (λ o. cond (option_map_or (λ t. ltb t s) o false) 0 (budget c p - lent c p past s)) is
        ∙ ap (λ b. cond b 0 (budget c p - lent c p past s)) a in
        let none : claims_from c p j past firsts s ≡ 0 =
        sum_by-zero (λ y. claim_from j (firsts y.level) s y) (children c p past)
        (λ y h. let gone = children-with-main c p past y checked here fair audited h t is in rw gone refl) in
        omega (arith, main, none)

-- where a window of level j begins
abbrev pub thread_part : Configuration → ℕ → ℕ → List Entry → Thread → ℕ
thread_part c j n past x = cond (leb x.level j) (thread_demand c n past (window_end c j n) x) 0

demand-from-start : (c : Configuration) (i j n : ℕ) (f : ℕ → ℕ) → 0 < period c i → period c i ∣ period c j → 0 < period c j
    → n % period c j ≡ 0
    → f n + sum_starts c i n (window_end c j n) f ≡ sum_every (period c i) n ((window_end c j n - n) / period c i) f
demand-from-start c i j n f short divides long begins =
    let P = period c i in
    let together = begins-together n P (period c j) divides begins in
    let start : window_end c i n ≡ n + P = rw together (omega arith) in
    let end : window_end c j n - n ≡ period c j = rw begins (omega arith) in
    let count : windows_left c i n (window_end c j n) + 1 ≡ period c j / P = left-at_start n P (period c j) short divides long begins together in
    let whole : (window_end c j n - n) / P ≡ suc (windows_left c i n (window_end c j n)) = ap (λ d. d / P) end ∙ sym count ∙ omega arith in
    ap (λ w. f n + sum_every P w (windows_left c i n (window_end c j n)) f) start
    ∙ sym (ap (λ k. sum_every P n k f) whole)

pub thread-begins : (c : Configuration) (p j : ℕ) (past : List Entry) (x : Thread) → IsChecked c → p < length c.processes → j < length c.levels
    → Audited c past → Has (family c p past) x → length past % period c j ≡ 0
    → thread_part c j (length past) past x ≡ future_of c j (window_end c j (length past)) past (λ i. length past) x
thread-begins c p j past x checked here known audited h begins = grind (arith, nat_tests, begins-together, begin-order, demand-from-start, shares_between)

pub process-begins : (c : Configuration) (p j : ℕ) (past : List Entry) → IsChecked c → p < length c.processes → j < length c.levels
    → AllFair c past → Audited c past → length past % period c j ≡ 0
    → sum_by (thread_part c j (length past) past) (family c p past) ≤ cond (leb (main_level c p) j) (budget c p * (period c j / period c (main_level c p))) 0
process-begins c p j past checked here known fair audited begins =
    let n = length past in
    let m = main_level c p in
    let P = period c m in
    let E = window_end c j n in
    let firsts : ℕ → ℕ = λ i. n in
    elim (cases_lt j m) [
      | inl slow ↦
          let none = futures-slow c p j E past firsts (thread_demand c n past E) checked here slow audited in
          omega (arith, none)
      | inr reaches ↦
          let fast : leb m j ≡ true = grind (arith, nat_tests) in
          let positive = checked.positive m (checked.levels p here) in
          let long = checked.positive j known in
          let end : E - n ≡ period c j = rw begins (omega arith) in
          let same = sum_by-same (thread_part c j n past) (future_of c j E past firsts) (family c p past)
          (λ x h. thread-begins c p j past x checked here known audited h begins) in
          let promised = futures-promised c p j E past firsts checked here known reaches (record {
            whole = λ i a b. dvd_of_mod-eq-zero (period c i) (begins-together n (period c i) (period c j) (checked.divides i j b known) begins);
            ends = λ i a b. dvd_trans (period c i) (checked.divides i j b known) (dvd-end c j n);
            order = λ i a b. omega arith;
            room = λ i a b. omega arith;
            late = λ i a b. omega arith;
          }) audited in
          let less = sum_every-below P n ((E - n) / P) (promise c p j past firsts) (λ s. budget c p) positive
          (λ s low high. promise-at_most c p j s past firsts checked here fair audited low) in
          let all = sum_every-at_most P n ((E - n) / P) (λ s. budget c p) (budget c p) (λ s. omega arith) in
          let count : ((E - n) / P) * budget c p ≡ (period c j / P) * budget c p = ap (λ d. (d / P) * budget c p) end in
          let turn : (period c j / P) * budget c p ≡ budget c p * (period c j / P) = omega arith in
          let right : cond (leb m j) (budget c p * (period c j / P)) 0 ≡ budget c p * (period c j / P) = ap (λ b. cond b (budget c p * (period c j / P)) 0) fast in
          omega (arith, same, promised, less, all, count, turn, right)
    ]

pub remaining-begins : (c : Configuration) (j : ℕ) (past : List Entry) → IsChecked c → j < length c.levels
    → AllFair c past → Audited c past → length past % period c j ≡ 0
    → remaining_demand c (length past) past j ≤ level_demand c j
remaining-begins c j past checked known fair audited begins =
    let n = length past in
    let N = length c.processes in
    let K : ℕ → ℕ = λ i. period c j / period c i in
    let kernel : sum_from 0 (suc j) (kernel_demand c n past (window_end c j n)) ≤ sum_from 0 (suc j) (λ i. release c i * K i) =
    sum_from-le 0 (suc j) (kernel_demand c n past (window_end c j n)) (λ i. release c i * K i)
    (λ i a b. let whole = kernel-begins c i j past (checked.positive i (omega arith)) (checked.divides i j (omega arith) known) (checked.positive j known) begins in omega (arith, whole)) in
    let each : (p : ℕ) → 0 ≤ p → p < 0 + N → sum_by (thread_part c j n past) (family c p past) ≤ sum_from 0 (suc j) (λ i. budget_at c i p * K i) =
    λ p a b. (let mine = process-begins c p j past checked (omega arith) known fair audited begins in
    let term = term-at_level c p j in omega (arith, mine, term)) in
    let all : sum_from 0 N (λ p. sum_by (thread_part c j n past) (family c p past)) ≤ sum_from 0 N (λ p. sum_from 0 (suc j) (λ i. budget_at c i p * K i)) =
    sum_from-le 0 N (λ p. sum_by (thread_part c j n past) (family c p past)) (λ p. sum_from 0 (suc j) (λ i. budget_at c i p * K i)) each in
    let flat = sum_by-flat (thread_part c j n past) (λ p. family c p past) 0 N in
    let whole = level_demand-sum c j in
    omega (arith, kernel, all, whole, flat)
