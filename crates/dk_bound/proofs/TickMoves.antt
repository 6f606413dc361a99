-- A tick of the choice, before its event is known: what it does to jobs, demand and blocking.
use Rattle.dk_bound.proofs.Names.{ℕ, zero, suc, ◌≡◌, ◌+◌, ◌-◌, ◌≤◌, inl, inr, Bool, true, false, cond, eqb, leb, ltb, List, ◌∷◌, length, refl, sym, ap, ◌∙◌, arith, sum_by, flat_map, Some, None, option_or, option_map_or, cases_Bool, nat_tests, Configuration, IsChecked, IsAccepted, numbers, sum_from, window_end, ThreadId, Label, Entry, Has, is_same, payer, thread_of, kernel_level, is_of, is_budget_of, is_out_of, is_kernel_at, quiet, Thread, threads, share, Job, job, rem, thread_rem, kernel_rem, thread_blocking, blocking, sum_starts, thread_demand, kernel_demand, own_demand, remaining_demand, level_of, chosen, HasChosenLabel, Audited, spent_job, AtEachTick, TickKeepsThreads, TickSpends, TickLowersRem, TickLowersKernel, working_level, worked, TickLowersOwn, TickLowersRemaining, TickMovesBlocking, sum-exchange, sum-only, spent, count-charged, paid-le, thread-of, payer-none, find-some, sum_by-same, sum_by-zero, sum_by-add, same-self, sum_from-same, sum_from-add, sum_from-zero, sum_every-each, Distinct, same-row, ThreadsFit, threads-fit, Ticks, the_job, quiet-stops, family-charged, share-charged, job-charged, Fair, kernel_paid, one_or_none, pays, Kind, paid, lent, kernel, idle, kind-label, ticks-of, same-id, held-mine}
use Rattle.dk_bound.proofs.Fits.{kernel-is-ready}
use Rattle.dk_bound.proofs.Demands.{cond-none, kept}
use Rattle.dk_bound.proofs.Nesting.{greatest-aged}
use Rattle.dk_bound.proofs.Joint.{fair-choice, holders-fit}

flat-same : (f g : ℕ → List Thread) (low n : ℕ) → ((p : ℕ) → f p ≡ g p) → flat_map f (numbers low n) ≡ flat_map g (numbers low n)
flat-same f g low zero same = refl
flat-same f g low (suc n) same = rw (same low, flat-same f g (suc low) n same) refl

pub threads-charged : (c : Configuration) (label : Label) (past : List Entry) → threads c (quiet label ∷ past) ≡ threads c past
threads-charged c label past = grind (arith, nat_tests, flat-same, family-charged)

-- what is left of a job after a tick
tick-rem : (W s u o : ℕ) (k : Bool) (used out : ℕ) → Ticks W s u o k used out
    → rem W (the_job s (used + u) (out + o) k) + used ≡ rem W (the_job s u o k)
tick-rem W s u o k used out is = grind (arith, nat_tests)

tick-spent : (W s u o : ℕ) (k : Bool) (used out : ℕ) → Ticks W s u o k used out → used ≡ 1
    → the_job s (used + u) (out + o) k ≡ spent_job W (the_job s u o k)
tick-spent W s u o k used out is one = grind (arith, nat_tests)

tick-kept : (W s u o : ℕ) (k : Bool) (used out : ℕ) → Ticks W s u o k used out → used ≡ 0
    → the_job s (used + u) (out + o) k ≡ the_job s u o k
tick-kept W s u o k used out is none = grind (arith, nat_tests)

-- what the tick is to the job of a thread
ticks-now : (c : Configuration) (label : Label) (past : List Entry) (x : Thread) → IsChecked c → Audited c past
    → Fair c past (chosen c past) → HasChosenLabel (chosen c past) label → Has (threads c past) x
    → let j : Job = job c (length past) past x in
    Ticks c.costs.switch j.share j.used j.out_ticks j.closed (spent x.id (quiet label)) (cond (is_out_of x.id (quiet label)) 1 0)
ticks-now c label past x checked audited fair has among =
    let fit = threads-fit c past checked audited in
    ticks-of c x.id.process past (chosen c past) (quiet label) x checked (fit.rows x among).known audited (fit.place x among) fair has

pub rem-charged : (c : Configuration) (label : Label) (past : List Entry) (x : Thread) → IsChecked c → Audited c past
    → Fair c past (chosen c past) → HasChosenLabel (chosen c past) label → Has (threads c past) x
    → thread_rem c (length past) (quiet label ∷ past) x + spent x.id (quiet label) ≡ thread_rem c (length past) past x
rem-charged c label past x checked audited fair has among =
    let j : Job = job c (length past) past x in
    let used = spent x.id (quiet label) in
    ap (λ k. rem c.costs.switch k + used) (job-charged c label past x)
    ∙ tick-rem c.costs.switch j.share j.used j.out_ticks j.closed used (cond (is_out_of x.id (quiet label)) 1 0)
    (ticks-now c label past x checked audited fair has among)

job-spent : (c : Configuration) (label : Label) (past : List Entry) (x : Thread) → IsChecked c → Audited c past
    → Fair c past (chosen c past) → HasChosenLabel (chosen c past) label → Has (threads c past) x
    → job c (length past) (quiet label ∷ past) x
    ≡ cond (is_budget_of x.id (quiet label)) (spent_job c.costs.switch (job c (length past) past x)) (job c (length past) past x)
job-spent c label past x checked audited fair has among =
    let j : Job = job c (length past) past x in
    let W = c.costs.switch in
    let used = spent x.id (quiet label) in
    let out = cond (is_out_of x.id (quiet label)) 1 0 in
    let ticks = ticks-now c label past x checked audited fair has among in
    elim (cases_Bool (is_budget_of x.id (quiet label))) [
      | inl mine ↦
          let one : used ≡ 1 = ap (λ b. cond b 1 0) mine in
          job-charged c label past x ∙ tick-spent W j.share j.used j.out_ticks j.closed used out ticks one
          ∙ sym (ap (λ b. cond b (spent_job W j) j) mine)
      | inr other ↦
          let none : used ≡ 0 = ap (λ b. cond b 1 0) other in
          job-charged c label past x ∙ tick-kept W j.share j.used j.out_ticks j.closed used out ticks none
          ∙ sym (ap (λ b. cond b (spent_job W j) j) other)
    ]

pub kernel-charged : (c : Configuration) (label : Label) (past : List Entry) (i : ℕ)
    → Fair c past (chosen c past) → HasChosenLabel (chosen c past) label
    → kernel_rem c (length past) (quiet label ∷ past) i + kernel_paid i (quiet label) ≡ kernel_rem c (length past) past i
kernel-charged c label past i fair has =
    let e = quiet label in
    let ready = kernel-is-ready c past (chosen c past) e fair has in
    let room : kernel_paid i e ≤ kernel_rem c (length past) past i =
    paid-le (kernel_paid i e) (kernel_rem c (length past) past i) (one_or_none (is_kernel_at i e)) (λ h. ready i (pays (is_kernel_at i e) h)) in
    let more = count-charged (is_kernel_at i) c e past i in
    omega (arith, more, room)

pub id-level : (c : Configuration) (past : List Entry) (x : Thread) → ThreadsFit c past → Has (threads c past) x
    → level_of (threads c past) x.id ≡ Some x.level
id-level c past x fit among =
    let r = find-some (λ z. is_same x.id z.id) (threads c past) x among (same-self x.id) in
    let same : r.0 ≡ x = same-row (threads c past) r.0 x fit.distinct r.1 among (sym (same-id x.id r.0.id r.2)) in
    ap (λ o. option_map_or (λ z. Some z.level) o None) (r.3 ∙ ap Some same)

-- nobody but its payer spends the tick
pub spent-other : (x y : ThreadId) (label : Label) → payer label ≡ Some x → (y ≡ x → ⊥) → spent y (quiet label) ≡ 0
spent-other x y label is other = grind (arith, nat_tests)

spent-payer : (x : ThreadId) (label : Label) → payer label ≡ Some x → spent x (quiet label) ≡ 1
spent-payer x label is = rw (is, same-self x) refl

abbrev paid_by : (ℕ → Bool) → Label → List Thread → ℕ
paid_by test label xs = sum_by (kept test (λ x. spent x.id (quiet label))) xs

paid-nobody : (test : ℕ → Bool) (label : Label) (xs : List Thread) → payer label ≡ None → paid_by test label xs ≡ 0
paid-nobody test label xs none = grind (arith, nat_tests, sum_by-zero, kept, spent, cond-none, payer-none)

paid-one : (test : ℕ → Bool) (label : Label) (xs : List Thread) (x : Thread) → Distinct xs → Has xs x → payer label ≡ Some x.id
    → paid_by test label xs ≡ cond (test x.level) 1 0
paid-one test label xs x distinct among is = grind (arith, nat_tests, sum-only, kept, spent, cond-none, spent-other, spent-payer)

-- what the kernel's own work at the levels that pass the test had of the tick
record IsKernelPart (test : ℕ → Bool) (label : Label) (part : ℕ) : Type 0 where
  none : kernel_level label ≡ None → part ≡ 0
  some : (k : ℕ) → kernel_level label ≡ Some k → part ≡ cond (test k) 1 0

worked-parts : (c : Configuration) (label : Label) (past : List Entry) (test : ℕ → Bool) (part : ℕ) → ThreadsFit c past
    → Kind c past label → IsKernelPart test label part → part + paid_by test label (threads c past) ≡ worked test (threads c past) label
worked-parts c label past test part fit (paid k x known passed among turn pays borrows level) is =
    let one = paid-one test label (threads c past) x fit.distinct among pays in
    let none = is.none level in
    let at : working_level (threads c past) label ≡ Some x.level =
    ap (λ o. option_or o (option_map_or (level_of (threads c past)) (payer label) None)) level
    ∙ ap (λ o. option_map_or (level_of (threads c past)) o None) pays ∙ id-level c past x fit among in
    let right : worked test (threads c past) label ≡ cond (test x.level) 1 0 = ap (λ o. cond (option_map_or test o false) 1 0) at in
    omega (arith, one, none, right)
worked-parts c label past test part fit (lent k x known passed among left fitting pays borrows level) is =
    worked-nobody pays level
  where
    worked-nobody : payer label ≡ None → kernel_level label ≡ None → part + paid_by test label (threads c past) ≡ worked test (threads c past) label
    worked-nobody pays level =
        let one = paid-nobody test label (threads c past) pays in
        let none = is.none level in
        let right : worked test (threads c past) label ≡ 0 = rw (level, pays) refl in
        omega (arith, one, none, right)
worked-parts c label past test part fit (kernel k known passed left pays borrows level) is =
    let one = paid-nobody test label (threads c past) pays in
    let some = is.some k level in
    let right : worked test (threads c past) label ≡ cond (test k) 1 0 = rw level refl in
    omega (arith, one, some, right)
worked-parts c label past test part fit (idle passed pays borrows level) is =
    let one = paid-nobody test label (threads c past) pays in
    let none = is.none level in
    let right : worked test (threads c past) label ≡ 0 = rw (level, pays) refl in
    omega (arith, one, none, right)

kernel-other : (i : ℕ) (label : Label) → kernel_level label ≡ None → kernel_paid i (quiet label) ≡ 0
kernel-other i label is = rw is refl

kernel-at : (i k : ℕ) (label : Label) → kernel_level label ≡ Some k → kernel_paid i (quiet label) ≡ cond (eqb k i) 1 0
kernel-at i k label is = rw is refl

own-part : (j : ℕ) (label : Label) → IsKernelPart (λ i. eqb i j) label (kernel_paid j (quiet label))
own-part j label = record { none = kernel-other j label; some = λ k is. kernel-at j k label is }

-- of all levels only level k has the tick
one-level : (low n k : ℕ) → sum_from low n (λ i. cond (eqb k i) 1 0) ≡ cond (leb low k) (cond (ltb k (low + n)) 1 0) 0
one-level low zero k = grind (arith, nat_tests)
one-level low (suc n) k = grind (arith, nat_tests, one-level (suc low) n)

abbrev one_if : Bool → ℕ
one_if b = cond b 1 0

remaining-part : (j : ℕ) (label : Label) → IsKernelPart (λ i. leb i j) label (sum_from 0 (suc j) (λ i. kernel_paid i (quiet label)))
remaining-part j label = record {
  none =
      λ is. sum_from-same 0 (suc j) (λ i. kernel_paid i (quiet label)) (λ i. 0) (λ i a b. kernel-other i label is) ∙ sum_from-zero 0 (suc j);
  some =
      λ k is. sum_from-same 0 (suc j) (λ i. kernel_paid i (quiet label)) (λ i. cond (eqb k i) 1 0) (λ i a b. kernel-at i k label is)
      ∙ one-level 0 (suc j) k ∙ up-to k;
}
  where
    up-to : (k : ℕ) → cond (leb 0 k) (one_if (ltb k (0 + suc j))) 0 ≡ one_if (leb k j)
    up-to k =
        let a : leb 0 k ≡ true = grind (arith, nat_tests) in
        elim (cases_Bool (leb k j)) [
          | inl le ↦ (let b : ltb k (0 + suc j) ≡ true = grind (arith, nat_tests) in rw (a, b, le) refl)
          | inr more ↦ (let b : ltb k (0 + suc j) ≡ false = grind (arith, nat_tests) in rw (a, b, more) refl)
        ]

pub cond-back : (b : Bool) (x y z : ℕ) → x + y ≡ z → cond b x 0 + cond b y 0 ≡ cond b z 0
cond-back b x y z h = grind (arith, nat_tests)

own-charged : (c : Configuration) (label : Label) (past : List Entry) (j : ℕ) → IsChecked c → Audited c past
    → Fair c past (chosen c past) → HasChosenLabel (chosen c past) label
    → own_demand c (length past) (quiet label ∷ past) j + worked (λ i. eqb i j) (threads c past) label ≡ own_demand c (length past) past j
own-charged c label past j checked audited fair has =
    let n = length past in
    let xs = threads c past in
    let at : ℕ → Bool = λ i. eqb i j in
    let after = kept at (thread_rem c n (quiet label ∷ past)) in
    let mine = kept at (λ x. spent x.id (quiet label)) in
    let moved : sum_by after (threads c (quiet label ∷ past)) ≡ sum_by after xs = ap (sum_by after) (threads-charged c label past) in
    let each = sum_by-same (λ x. after x + mine x) (kept at (thread_rem c n past)) xs
    (λ x h. cond-back (at x.level) (thread_rem c n (quiet label ∷ past) x) (spent x.id (quiet label)) (thread_rem c n past x)
    (rem-charged c label past x checked audited fair has h)) in
    let split = sum_by-add after mine xs in
    let kernel_ = kernel-charged c label past j fair has in
    let whole = worked-parts c label past at (kernel_paid j (quiet label)) (threads-fit c past checked audited) (kind-label c past label has) (own-part j label) in
    omega (arith, moved, each, split, kernel_, whole)

pub starts-charged : (c : Configuration) (label : Label) (past : List Entry) (i before : ℕ) (x : Thread)
    → sum_starts c i (length past) before (share c (quiet label ∷ past) x) ≡ sum_starts c i (length past) before (share c past x)
starts-charged c label past i before x = grind (arith, nat_tests, sum_every-each, share-charged)

remaining-charged : (c : Configuration) (label : Label) (past : List Entry) (j : ℕ) → IsChecked c → Audited c past
    → Fair c past (chosen c past) → HasChosenLabel (chosen c past) label
    → remaining_demand c (length past) (quiet label ∷ past) j + worked (λ i. leb i j) (threads c past) label ≡ remaining_demand c (length past) past j
remaining-charged c label past j checked audited fair has =
    let n = length past in
    let E = window_end c j n in
    let xs = threads c past in
    let to : ℕ → Bool = λ i. leb i j in
    let after = kept to (thread_demand c n (quiet label ∷ past) E) in
    let mine = kept to (λ x. spent x.id (quiet label)) in
    let moved : sum_by after (threads c (quiet label ∷ past)) ≡ sum_by after xs = ap (sum_by after) (threads-charged c label past) in
    let each = sum_by-same (λ x. after x + mine x) (kept to (thread_demand c n past E)) xs
    (λ x h. cond-back (to x.level) (thread_demand c n (quiet label ∷ past) E x) (spent x.id (quiet label)) (thread_demand c n past E x)
    (let now = rem-charged c label past x checked audited fair has h in let later = starts-charged c label past x.level E x in omega (arith, now, later))) in
    let split = sum_by-add after mine xs in
    let kernels = sum_from-same 0 (suc j) (λ i. kernel_demand c n (quiet label ∷ past) E i + kernel_paid i (quiet label)) (kernel_demand c n past E)
    (λ i a b. let one = kernel-charged c label past i fair has in omega (arith, one)) in
    let split' = sum_from-add 0 (suc j) (kernel_demand c n (quiet label ∷ past) E) (λ i. kernel_paid i (quiet label)) in
    let whole = worked-parts c label past to (sum_from 0 (suc j) (λ i. kernel_paid i (quiet label))) (threads-fit c past checked audited)
    (kind-label c past label has) (remaining-part j label) in
    omega (arith, moved, each, split, kernels, split', whole)

-- the holder whose tick it is keeps a level waiting a tick less
blocking-mine : (c : Configuration) (label : Label) (past : List Entry) (j : ℕ) (x : Thread) → is_of x.id (quiet label) ≡ true
    → thread_blocking c (quiet label ∷ past) j x ≡ thread_blocking c past j x - 1
blocking-mine c label past j x mine = grind (arith, nat_tests, held-mine, quiet-stops, greatest-aged)

pub blocking-other : (c : Configuration) (label : Label) (past : List Entry) (j : ℕ) (x : Thread) → is_of x.id (quiet label) ≡ false
    → thread_blocking c (quiet label ∷ past) j x ≡ thread_blocking c past j x
blocking-other c label past j x other = grind (arith, nat_tests)

pub not-of : (x y : ThreadId) (label : Label) → thread_of label ≡ Some x → (y ≡ x → ⊥) → is_of y (quiet label) ≡ false
not-of x y label is other = grind (arith, nat_tests)

pub blocking-moved : (c : Configuration) (label : Label) (past : List Entry) (j : ℕ)
    → blocking c (quiet label ∷ past) j ≡ sum_by (thread_blocking c (quiet label ∷ past) j) (threads c past)
blocking-moved c label past j = ap (sum_by (thread_blocking c (quiet label ∷ past) j)) (threads-charged c label past)

blocking-moves : (c : Configuration) (label : Label) (past : List Entry) → ThreadsFit c past → TickMovesBlocking c label past
blocking-moves c label past fit = record {
  follows =
      λ x among is j. (let moved = blocking-moved c label past j in
      let both = sum-exchange (thread_blocking c (quiet label ∷ past) j) (thread_blocking c past j) (threads c past) x fit.distinct among
      (λ y there other. blocking-other c label past j y (not-of x.id y.id label is other)) in
      omega (arith, moved, both));
  lowers = λ x j is. blocking-mine c label past j x (thread-of x.id (quiet label) is);
  keeps =
      λ j none. (let same = sum_by-same (thread_blocking c (quiet label ∷ past) j) (thread_blocking c past j) (threads c past)
      (λ y there. blocking-other c label past j y (rw none refl)) in
      blocking-moved c label past j ∙ same);
}

pub fair-now : (c : Configuration) (past : List Entry) → IsChecked c → IsAccepted c → Audited c past → Fair c past (chosen c past)
fair-now c past checked accepted audited = fair-choice c past checked audited (holders-fit c past checked accepted audited)

pub tick_keeps_threads : AtEachTick TickKeepsThreads
tick_keeps_threads c label past checked accepted audited has = record {
  families = λ p. family-charged c p label past;
  threads = threads-charged c label past;
  shares = share-charged c label past;
}

pub tick_spends : AtEachTick TickSpends
tick_spends c label past checked accepted audited has x among = job-spent c label past x checked audited (fair-now c past checked accepted audited) has among

pub tick_lowers_rem : AtEachTick TickLowersRem
tick_lowers_rem c label past checked accepted audited has x among = rem-charged c label past x checked audited (fair-now c past checked accepted audited) has among

pub tick_lowers_kernel : AtEachTick TickLowersKernel
tick_lowers_kernel c label past checked accepted audited has i = kernel-charged c label past i (fair-now c past checked accepted audited) has

pub tick_lowers_own : AtEachTick TickLowersOwn
tick_lowers_own c label past checked accepted audited has j = own-charged c label past j checked audited (fair-now c past checked accepted audited) has

pub tick_lowers_remaining : AtEachTick TickLowersRemaining
tick_lowers_remaining c label past checked accepted audited has j = remaining-charged c label past j checked audited (fair-now c past checked accepted audited) has

pub tick_moves_blocking : AtEachTick TickMovesBlocking
tick_moves_blocking c label past checked accepted audited has = blocking-moves c label past (threads-fit c past checked audited)
