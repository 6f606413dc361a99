-- An entry lowers what the levels up to j need by what it did for them, and the move to the next tick never raises it.
use Rattle.dk_bound.proofs.Names.{ℕ, suc, ◌≡◌, ◌+◌, ◌-◌, ◌%◌, ◌<◌, ◌≤◌, inl, inr, Bool, true, cond, eqb, leb, List, ◌∷◌, length, refl, ap, ◌∙◌, subst, arith, sum_by, count_by, map, ◌∣◌, cases_Bool, nat_tests, sum_by-append, Configuration, sum_from, period, release, window_end, Entry, is_kernel_at, Thread, family, after_entry, threads, share, new_rows, thread_rem, kernel_rem, rem, sum_starts, thread_demand, kernel_demand, own_demand, remaining_demand, Audited, mod-next, spent, count-charged, count-begins, paid-le, window_start-within, kernel_paid, one_or_none, pays, starts-within, starts-begins, sum_from-le, sum_from-add, paid_by_kernel, IsChecked, AllFair, Has, sum_by-le, sum_by-same, sum_by-zero, sum_by-add, sum_by-map, sum_by-flat, job-moves, charge-row, charge-new, begin-order, jobs-in-order}
use Rattle.std.specs.Prelude.{take}
use Rattle.dk_bound.proofs.Promises.{futures, futures-entry}
use Rattle.dk_bound.proofs.Begins.{thread_part}

-- what a test of levels keeps of a number of a thread
abbrev pub kept : (ℕ → Bool) → (Thread → ℕ) → Thread → ℕ
kept test f x = cond (test x.level) (f x) 0

cond-add : (b : Bool) (x y : ℕ) → cond b (x + y) 0 ≡ cond b x 0 + cond b y 0
cond-add b x y = grind (arith, nat_tests)

cond-fall : (b : Bool) (x y z : ℕ) → x + y ≤ z → cond b x 0 + cond b y 0 ≤ cond b z 0
cond-fall b x y z h = grind (arith, nat_tests)

pub cond-none : (b : Bool) (x : ℕ) → x ≡ 0 → cond b x 0 ≡ 0
cond-none b x h = grind (arith, nat_tests)

-- what is left of the shares of a process, at the levels that pass the test, falls by what the entry spent of them
pub rems-entry : (c : Configuration) (p : ℕ) (test : ℕ → Bool) (e : Entry) (past : List Entry) → IsChecked c → p < length c.processes
    → AllFair c (e ∷ past) → Audited c (e ∷ past)
    → sum_by (kept test (thread_rem c (length past) (e ∷ past))) (family c p (e ∷ past)) + sum_by (kept test (λ x. spent x.id e)) (family c p past)
    ≤ sum_by (kept test (thread_rem c (length past) past)) (family c p past)
rems-entry c p test e past checked here fair audited =
    let n = length past in
    let after = kept test (thread_rem c n (e ∷ past)) in
    let before = kept test (thread_rem c n past) in
    let paid = kept test (λ x. spent x.id e) in
    let old = map (after_entry e n) (family c p past) in
    let new = new_rows c p e past in
    let split = sum_by-append after old new in
    let mapped = sum_by-map after (after_entry e n) (family c p past) in
    let none : sum_by after new ≡ 0 = sum_by-zero after new
    (λ y h. cond-none (test y.level) (thread_rem c n (e ∷ past) y) (charge-new c p e past y checked here fair audited h).1) in
    let sums = sum_by-add (λ x. after (after_entry e n x)) paid (family c p past) in
    let each = sum_by-le (λ x. after (after_entry e n x) + paid x) before (family c p past)
    (λ x h. cond-fall (test x.level) (thread_rem c n (e ∷ past) (after_entry e n x)) (spent x.id e) (thread_rem c n past x)
    (charge-row c p e past x checked here fair audited h (jobs-in-order c p past x checked here fair.0 audited.0 h)).1) in
    omega (arith, split, mapped, none, sums, each)

-- a process's part of what the levels up to j need
abbrev pub process_demand : Configuration → ℕ → ℕ → ℕ → List Entry → ℕ
process_demand c p j n past = sum_by (thread_part c j n past) (family c p past)

abbrev pub up_to : ℕ → ℕ → Bool
up_to j i = leb i j

pub process_demand-parts : (c : Configuration) (p j n : ℕ) (past : List Entry)
    → process_demand c p j n past ≡ sum_by (kept (up_to j) (thread_rem c n past)) (family c p past) + futures c p j n past
process_demand-parts c p j n past =
    let now = kept (up_to j) (thread_rem c n past) in
    let later = kept (up_to j) (λ x. sum_starts c x.level n (window_end c j n) (share c past x)) in
    sum_by-same (thread_part c j n past) (λ x. now x + later x) (family c p past)
    (λ x h. cond-add (leb x.level j) (thread_rem c n past x) (sum_starts c x.level n (window_end c j n) (share c past x)))
    ∙ sum_by-add now later (family c p past)

abbrev pub process_paid : Configuration → ℕ → ℕ → Entry → List Entry → ℕ
process_paid c p j e past = sum_by (kept (up_to j) (λ x. spent x.id e)) (family c p past)

pub process-entry : (c : Configuration) (p j : ℕ) (e : Entry) (past : List Entry) → IsChecked c → p < length c.processes → j < length c.levels
    → AllFair c (e ∷ past) → Audited c (e ∷ past)
    → process_demand c p j (length past) (e ∷ past) + process_paid c p j e past ≤ process_demand c p j (length past) past
process-entry c p j e past checked here known fair audited =
    let n = length past in
    let after = process_demand-parts c p j n (e ∷ past) in
    let before = process_demand-parts c p j n past in
    let now = rems-entry c p (up_to j) e past checked here fair audited in
    let later = futures-entry c p j e past checked here known fair audited in
    omega (arith, after, before, now, later)

-- the kernel's part
pub kernel-entry : (c : Configuration) (i before : ℕ) (e : Entry) (past : List Entry)
    → (is_kernel_at i e ≡ true → 0 < kernel_rem c (length past) past i)
    → kernel_demand c (length past) (e ∷ past) before i + kernel_paid i e ≤ kernel_demand c (length past) past before i
kernel-entry c i before e past ready = grind (arith, nat_tests, kernel_paid, paid-le, one_or_none, pays, count-charged)

pub kernel_rem-moves : (c : Configuration) (i n : ℕ) (past : List Entry) → suc n % period c i ≡ suc (n % period c i)
    → kernel_rem c (suc n) past i ≡ kernel_rem c n past i
kernel_rem-moves c i n past within = ap (λ w. release c i - count_by (is_kernel_at i) (take (length past - w) past)) (window_start-within c i n within)

pub kernel-moves : (c : Configuration) (i j : ℕ) (e : Entry) (past : List Entry) → 0 < period c i → period c i ∣ period c j → 0 < period c j
    → suc (length past) % period c j ≡ suc (length past % period c j)
    → kernel_demand c (suc (length past)) (e ∷ past) (window_end c j (suc (length past))) i
    ≤ kernel_demand c (length past) (e ∷ past) (window_end c j (length past)) i
kernel-moves c i j e past short divides positive long = grind (arith, nat_tests, mod-next, count-begins, starts-begins, kernel_rem-moves, starts-within)

pub thread-moves : (c : Configuration) (p j : ℕ) (e : Entry) (past : List Entry) (x : Thread) → IsChecked c → p < length c.processes → j < length c.levels
    → Audited c (e ∷ past) → Has (family c p (e ∷ past)) x → x.level ≤ j
    → suc (length past) % period c j ≡ suc (length past % period c j)
    → thread_demand c (suc (length past)) (e ∷ past) (window_end c j (suc (length past))) x
    ≤ thread_demand c (length past) (e ∷ past) (window_end c j (length past)) x
thread-moves c p j e past x checked here known audited h le long =
    let n = length past in
    let i = x.level in
    let f : ℕ → ℕ = share c (e ∷ past) x in
    let short = checked.positive i (omega arith) in
    let divides = checked.divides i j le known in
    let positive = checked.positive j known in
    elim (mod-next n (period c i) short) [
      | inl begins ↦
          let fresh : thread_rem c (suc n) (e ∷ past) x ≡ f (suc n) = (begin-order c p (e ∷ past) x checked here audited h begins.0).1 in
          let sums = starts-begins c i j n f short divides positive begins.0 begins.1 long in
          omega (arith, fresh, sums)
      | inr within ↦
          let stays : thread_rem c (suc n) (e ∷ past) x ≡ thread_rem c n (e ∷ past) x = ap (rem c.costs.switch) (job-moves c n (e ∷ past) x within) in
          let sums = starts-within c i j n f within long in
          omega (arith, stays, sums)
    ]

pub process-moves : (c : Configuration) (p j : ℕ) (e : Entry) (past : List Entry) → IsChecked c → p < length c.processes → j < length c.levels
    → Audited c (e ∷ past) → suc (length past) % period c j ≡ suc (length past % period c j)
    → process_demand c p j (suc (length past)) (e ∷ past) ≤ process_demand c p j (length past) (e ∷ past)
process-moves c p j e past checked here known audited long =
    let n = length past in
    sum_by-le (thread_part c j (suc n) (e ∷ past)) (thread_part c j n (e ∷ past)) (family c p (e ∷ past))
    (λ x h. elim (cases_Bool (leb x.level j)) [
      | inl fast ↦
          let le : x.level ≤ j = grind (arith, nat_tests) in
          let less = thread-moves c p j e past x checked here known audited h le long in
          rw fast less
      | inr slow ↦ rw slow (omega arith)
    ])

abbrev pub KernelReady : Configuration → Entry → List Entry → Type 0
KernelReady c e past = (i : ℕ) → is_kernel_at i e ≡ true → 0 < kernel_rem c (length past) past i

abbrev pub paid_by_threads : Configuration → ℕ → Entry → List Entry → ℕ
paid_by_threads c j e past = sum_from 0 (length c.processes) (λ p. process_paid c p j e past)

-- what the levels up to j need, after the entry and before the move
pub remaining-entry : (c : Configuration) (j : ℕ) (e : Entry) (past : List Entry) → IsChecked c → j < length c.levels
    → AllFair c (e ∷ past) → Audited c (e ∷ past) → KernelReady c e past
    → remaining_demand c (length past) (e ∷ past) j + paid_by_kernel j e + paid_by_threads c j e past ≤ remaining_demand c (length past) past j
remaining-entry c j e past checked known fair audited ready =
    let n = length past in
    let N = length c.processes in
    let E = window_end c j n in
    let kernel = sum_from-le 0 (suc j) (λ i. kernel_demand c n (e ∷ past) E i + kernel_paid i e) (kernel_demand c n past E)
    (λ i a b. kernel-entry c i E e past (ready i)) in
    let split = sum_from-add 0 (suc j) (kernel_demand c n (e ∷ past) E) (λ i. kernel_paid i e) in
    let all = sum_from-le 0 N (λ p. process_demand c p j n (e ∷ past) + process_paid c p j e past) (λ p. process_demand c p j n past)
    (λ p a b. process-entry c p j e past checked (omega arith) known fair audited) in
    let split' = sum_from-add 0 N (λ p. process_demand c p j n (e ∷ past)) (λ p. process_paid c p j e past) in
    let after = sum_by-flat (thread_part c j n (e ∷ past)) (λ p. family c p (e ∷ past)) 0 N in
    let before = sum_by-flat (thread_part c j n past) (λ p. family c p past) 0 N in
    omega (arith, kernel, split, all, split', after, before)

pub remaining-moves : (c : Configuration) (j : ℕ) (e : Entry) (past : List Entry) → IsChecked c → j < length c.levels
    → Audited c (e ∷ past) → suc (length past) % period c j ≡ suc (length past % period c j)
    → remaining_demand c (suc (length past)) (e ∷ past) j ≤ remaining_demand c (length past) (e ∷ past) j
remaining-moves c j e past checked known audited long =
    let n = length past in
    let N = length c.processes in
    let kernel = sum_from-le 0 (suc j) (kernel_demand c (suc n) (e ∷ past) (window_end c j (suc n))) (kernel_demand c n (e ∷ past) (window_end c j n))
    (λ i a b. kernel-moves c i j e past (checked.positive i (omega arith)) (checked.divides i j (omega arith) known) (checked.positive j known) long) in
    let all = sum_from-le 0 N (λ p. process_demand c p j (suc n) (e ∷ past)) (λ p. process_demand c p j n (e ∷ past))
    (λ p a b. process-moves c p j e past checked (omega arith) known audited long) in
    let after = sum_by-flat (thread_part c j (suc n) (e ∷ past)) (λ p. family c p (e ∷ past)) 0 N in
    let before = sum_by-flat (thread_part c j n (e ∷ past)) (λ p. family c p (e ∷ past)) 0 N in
    omega (arith, kernel, all, after, before)

-- a level's own work
pub own-entry : (c : Configuration) (j : ℕ) (e : Entry) (past : List Entry) → IsChecked c
    → AllFair c (e ∷ past) → Audited c (e ∷ past)
    → own_demand c (length past) (e ∷ past) j ≤ own_demand c (length past) past j
own-entry c j e past checked fair audited =
    let n = length past in
    let N = length c.processes in
    let at : ℕ → Bool = λ i. eqb i j in
    let more = count-charged (is_kernel_at j) c e past j in
    let all = sum_from-le 0 N (λ p. sum_by (kept at (thread_rem c n (e ∷ past))) (family c p (e ∷ past))) (λ p. sum_by (kept at (thread_rem c n past)) (family c p past))
    (λ p a b. let step = rems-entry c p at e past checked (omega arith) fair audited in omega (arith, step)) in
    let after = sum_by-flat (kept at (thread_rem c n (e ∷ past))) (λ p. family c p (e ∷ past)) 0 N in
    let before = sum_by-flat (kept at (thread_rem c n past)) (λ p. family c p past) 0 N in
    omega (arith, more, all, after, before)

pub own-moves : (c : Configuration) (j n : ℕ) (past : List Entry) → suc n % period c j ≡ suc (n % period c j)
    → own_demand c (suc n) past j ≡ own_demand c n past j
own-moves c j n past long =
    let kernel = kernel_rem-moves c j n past long in
    let all : sum_by (kept (λ i. eqb i j) (thread_rem c (suc n) past)) (threads c past) ≡ sum_by (kept (λ i. eqb i j) (thread_rem c n past)) (threads c past) =
    sum_by-same (kept (λ i. eqb i j) (thread_rem c (suc n) past)) (kept (λ i. eqb i j) (thread_rem c n past)) (threads c past)
    (λ x h. elim (cases_Bool (eqb x.level j)) [
      | inl here ↦
          let same : j ≡ x.level = grind (arith, nat_tests) in
          let within : suc n % period c x.level ≡ suc (n % period c x.level) = subst (λ i. suc n % period c i ≡ suc (n % period c i)) same long in
          rw here (ap (rem c.costs.switch) (job-moves c n past x within))
      | inr other ↦ rw other refl
    ]) in
    omega (arith, kernel, all)
