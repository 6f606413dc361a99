-- The bound on how soon is met: where all others have left, a main has each tick that the kernel doesn't need.
use Rattle.dk_chain.proofs.Names.{ℕ, suc, ◌≡◌, ◌+◌, ◌-◌, ◌*◌, ◌/◌, ◌%◌, ◌<◌, ◌≤◌, inl, inr, true, false, eqb, ltb, List, [], ◌∷◌, length, take, drop, refl, sym, ap, ◌∙◌, subst, arith, Option, Some, None, count_by, cases_lt, nat_tests, div-add-mod', dvd_of_mod-eq-zero, dvd_trans, le_of_dvd, Configuration, IsChecked, IsAccepted, sum_from, period, main_level, budget, release, window_start, ThreadId, Phase, Label, Choice, Entry, Has, is_kernel_at, is_budget_of, payer, Thread, threads, main_thread, kernel_rem, is_holding, chosen, HadShare, past_at, job_from, count-charged, spent, main_id, main_row, threads-fit, Turn, by_hold, by_share, now_rem, Kind, paid, lent, kernel, idle, kind, main-among, passed-faster, received, job, Job, phase, share}
use Rattle.std.specs.Prelude.{if◌then◌else◌, ◌==◌}
use Rattle.std.proofs.lemmas.Bool.{cases_eq}
use Rattle.std.proofs.lemmas.Nat.{mod-mul-add}
use Rattle.std.proofs.lemmas.Nat.Gcd.{dvd_refl, mod-eq-zero_of_dvd}
use Rattle.std.proofs.Math.Nat.{zero-mod}
use Rattle.dk_config.specs.Ahead.{windows_begun}
use Rattle.dk_config.proofs.Sums.{sum_from-le, sum_from-add, sum_from-eq, sum_from-term}
use Rattle.dk_trace.specs.declared.Work.{Work}
use Rattle.dk_trace.specs.Audit.{HasChosenLabel, label_of, row_of}
use Rattle.dk_trace.specs.Entries.{borrower}
use Rattle.dk_trace.specs.Entries.{stops}
use Rattle.dk_trace.specs.Jobs.{is_closed, thread_rem}
use Rattle.dk_trace.specs.Threads.{is_stopped_before}
use Rattle.dk_trace.proofs.Mains.{main_stop}
use Rattle.dk_trace.proofs.Labels.{spent-payer, kernel_paid-level, kernel-says, budget-says, idle-says}
use Rattle.dk_trace.proofs.Windows.{mod-next}
use Rattle.dk_trace.proofs.Starts.{kernel_paid, one_or_none}
use Rattle.dk_bound.specs.Statements.{HasCause}
use Rattle.dk_bound.proofs.Ahead.{windows_later, later-within, later-begins, later-start, kernel_left}
use Rattle.dk_bound.proofs.Bounded.{past_at-later}
use Rattle.dk_bound.proofs.Demands.{kernel_rem-moves}
use Rattle.dk_bound.proofs.Laws.{with_cause, bounded}
use Rattle.dk_when.specs.Earliest.{may_hold_off, windows_over, always_ahead}
use Rattle.dk_chain.specs.NotBefore.{NeverHoldsOff, SoonestIsMet}
use Rattle.dk_chain.proofs.InOrder.{Rules, rules-before, used-from, now-from, unbegun-start}
use Rattle.dk_chain.proofs.KernelFirst.{budget-chosen, start-from}
use Rattle.dk_chain.proofs.Soonest.{since, kernels, kernels-next, begins-too}
use Rattle.dk_chain.proofs.Leaving.{AllLeave, leave, leaving, leaving-leaves, leaving-length, leaving-audited, leave-free, leave-alone, leave-wants, own-runs, leave-share, leave-open, leave-rem}

-- all that is known along such a list
record Left (c : Configuration) (p : ℕ) (past : List Entry) : Type 0 where
  rules : Rules c past
  here : p < length c.processes
  leaves : AllLeave c p past

left-before : (c : Configuration) (p : ℕ) (e : Entry) (past : List Entry) → Left c p (e ∷ past) → Left c p past
left-before c p e past l = record { rules = rules-before c e past l.rules; here = l.here; leaves = l.leaves.0 }

-- the row of a main is its own
own-row : (c : Configuration) (p q : ℕ) (past : List Entry) (row : Thread) → AllLeave c p past → row_of c past (main_id q) ≡ Some row → row ≡ main_row c q past
own-row c p q past row leaves found =
    let alone = leave-alone c p q past leaves in
    grind (arith, nat_tests)

-- in its first window another main has no more than its way in, while it has not stopped
abbrev had_first : Configuration → ℕ → List Entry → ℕ
had_first c q past = (job_from c past (main_thread c q) 0).used

stop-next : (q : ℕ) (e : Entry) (past : List Entry) → main_stop q (e ∷ past) ≡ None → (main_stop q past ≡ None) × (stops (main_id q) e ≡ false)
stop-next q e past none = grind (arith, nat_tests)

exit-stops : (p q : ℕ) (e : Entry) → (q ≡ p → ⊥) → e.label ≡ Label.Call (main_id q) → e.event ≡ leave p e.label → stops (main_id q) e ≡ true
exit-stops p q e other is event =
    let apart : eqb q p ≡ false = grind (arith, nat_tests) in
    grind (arith, nat_tests)

still-in : (c : Configuration) (p q : ℕ) (e : Entry) (past : List Entry) → Left c p (e ∷ past) → (q ≡ p → ⊥) → q < length c.processes
    → length past < period c (main_level c q) → main_stop q past ≡ None → stops (main_id q) e ≡ false → had_first c q past ≤ c.costs.switch
    → spent (main_id q) e ≡ 1 → had_first c q past < c.costs.switch
still-in c p q e past l other there within runs goes few one =
    let W = c.costs.switch in
    let pays : payer e.label ≡ Some (main_id q) = payer-of one in
    let choice = budget-chosen (chosen c past) e.label (main_id q) l.rules.audited.1.choice pays in
    let cause : HasCause c past (Choice.Budget (main_id q) choice.0) = subst (HasCause c past) choice.1 (with_cause c past l.rules.checked l.rules.accepted l.rules.audited.0) in
    let row = own-row c p q past cause.row l.leaves.0 cause.found in
    let part : choice.0 ≡ phase W (job c (length past) past (main_row c q past)) = cause.phase ∙ ap (λ x. phase W (job c (length past) past x)) row in
    let now = now-from c q 0 past (zero-mod (period c (main_level c q))) (omega arith) (omega arith) in
    let used : (job c (length past) past (main_row c q past)).used ≡ had_first c q past = ap (λ j. j.used) now in
    let whole : (job c (length past) past (main_row c q past)).share ≡ budget c q = leave-share c p q (window_start c (main_level c q) (length past)) past l.leaves.0 runs in
    let open_ : (job c (length past) past (main_row c q past)).closed ≡ false = leave-open c p q (length past) past l.leaves.0 runs in
    let least = l.rules.checked.budgets q there in
    elim (cases_lt (had_first c q past) W) [
      | inl less ↦ less
      | inr all ↦
          let body : choice.0 ≡ Phase.Body = part ∙ is-body W (job c (length past) past (main_row c q past)) open_ (omega (arith, used, all, few)) (omega (arith, whole, least)) in
          let label : e.label ≡ Label.Call (main_id q) = l.leaves.1 ∙ ap (λ ch. label_of ch Work.Call) (choice.1 ∙ ap (λ k. Choice.Budget (main_id q) k) body) in
          let stopped = exit-stops p q e other label l.leaves.2 in
          absurd (cc)
    ]
  where
    payer-of : spent (main_id q) e ≡ 1 → payer e.label ≡ Some (main_id q)
    payer-of some = grind (arith, nat_tests)

    is-body : (W : ℕ) (j : Job) → j.closed ≡ false → j.used ≡ W → 2 * W + 1 ≤ j.share → phase W j ≡ Phase.Body
    is-body W j open_ used least = grind (arith, nat_tests)

in-only : (c : Configuration) (p q : ℕ) (past : List Entry) → Left c p past → (q ≡ p → ⊥) → q < length c.processes → length past ≤ period c (main_level c q)
    → main_stop q past ≡ None → had_first c q past ≤ c.costs.switch
in-only c p q [] l other there within runs = let none = unbegun-start c q 0 [] (zero-mod (period c (main_level c q))) (omega arith) in omega (arith, none)
in-only c p q (e ∷ past) l other there within runs =
    let before = stop-next q e past runs in
    let few = in-only c p q past (left-before c p e past l) other there (omega arith) before.0 in
    let next = used-from c q 0 e past (omega arith) (omega arith) in
    elim (cases_lt 0 (spent (main_id q) e)) [
      | inr none ↦ omega (arith, none, few, next)
      | inl some ↦
          let one : spent (main_id q) e ≡ 1 = (let most = one_or_none (is_budget_of (main_id q) e) in omega (arith, most, some)) in
          let less = still-in c p q e past l other there (omega arith) before.0 before.1 few one in
          omega (arith, less, one, next)
    ]

stop-early : (q : ℕ) (past : List Entry) (t : ℕ) → main_stop q past ≡ Some t → t < length past
stop-early q [] t is = absurd (cc)
stop-early q (e ∷ past) t is = grind (arith, nat_tests, stop-early q past)

-- so by the end of its first window each other main has stopped
stopped-at : (c : Configuration) (p q : ℕ) (past : List Entry) → Left c p past → (q ≡ p → ⊥) → q < length c.processes → length past ≡ period c (main_level c q)
    → main_stop q past ≡ None → ⊥
stopped-at c p q past l other there at runs =
    let P = period c (main_level c q) in
    let x = main_row c q past in
    let few = in-only c p q past l other there (omega arith) runs in
    let had : HadShare c past x 0 = (received c past l.rules.checked l.rules.accepted l.rules.audited).0 x 0 (main-among c q past there) (zero-mod P) (omega arith) in
    let now : past_at past (0 + P) ≡ past = past_at-later past (0 + P) (omega arith) in
    let least = l.rules.checked.budgets q there in
    let start : past_at past 0 ≡ [] = none-at past in
    let whole : share c (past_at past 0) x 0 ≡ budget c q =
    ap (λ es. share c es x 0) start ∙ subst (λ y. share c [] y 0 ≡ budget c q) (ap (λ o. record { id = main_id q; level = main_level c q; quota = 0; start = 0; stop = o }) (sym runs)) (first-share c q) in
    elim had [
      | inl all ↦ absurd (omega (arith, all, whole, few, least))
      | inr shut ↦
          let open_ : is_closed c 0 past x ≡ false = leave-open c p q 0 past l.leaves runs in
          let closed : (job_from c past x 0).closed ≡ false = ap (λ es. is_closed c 0 es x) now ∙ open_ in
          let wrong : false ≡ true = sym closed ∙ shut.0 in
          absurd (cc)
    ]
  where
    drop-length : (es : List Entry) → drop (length es) es ≡ []
    drop-length [] = refl
    drop-length (e ∷ es) = drop-length es

    none-at : (es : List Entry) → past_at es 0 ≡ []
    none-at es = (let same : length es - 0 ≡ length es = omega arith in ap (λ k. drop k es) same) ∙ drop-length es

    first-share : (c : Configuration) (q : ℕ) → share c [] (main_row c q []) 0 ≡ budget c q
    first-share c q = leave-share c q q 0 [] tt refl

stopped-by : (c : Configuration) (p q : ℕ) (past : List Entry) → Left c p past → (q ≡ p → ⊥) → q < length c.processes → period c (main_level c q) ≤ length past
    → (t : ℕ) × (main_stop q past ≡ Some t) × (t < period c (main_level c q))
stopped-by c p q [] l other there late =
    let positive = l.rules.checked.positive (main_level c q) (l.rules.checked.levels q there) in absurd (omega arith)
stopped-by c p q (e ∷ past) l other there late =
    elim (cases_lt (length past) (period c (main_level c q))) [
      | inr old ↦
          let r = stopped-by c p q past (left-before c p e past l) other there old in
          let is = r.1 in
          (r.0, rw is refl, r.2)
      | inl new ↦ go (main_stop q (e ∷ past)) refl new
    ]
  where
    go : (o : Option ℕ) → main_stop q (e ∷ past) ≡ o → length past < period c (main_level c q) → (t : ℕ) × (main_stop q (e ∷ past) ≡ Some t) × (t < period c (main_level c q))
    go None is new = absurd (stopped-at c p q (e ∷ past) l other there (omega arith) is)
    go (Some t) is new = let early = stop-early q (e ∷ past) t is in (t, is, omega (arith, early))

-- and has nothing more
others-done : (c : Configuration) (p q : ℕ) (past : List Entry) → Left c p past → (q ≡ p → ⊥) → q < length c.processes
    → period c (main_level c q) ≤ window_start c (main_level c q) (length past) → thread_rem c (length past) past (main_row c q past) ≡ 0
others-done c p q past l other there late =
    let i = main_level c q in
    let n = length past in
    let w = window_start c i n in
    let x = main_row c q past in
    let positive = l.rules.checked.positive i (l.rules.checked.levels q there) in
    let r = stopped-by c p q past l other there (omega (arith, late)) in
    let t = r.0 in
    let is = r.1 in
    let early = r.2 in
    let gone : is_stopped_before w x ≡ true = (let less : ltb t w ≡ true = grind (arith, nat_tests) in rw is less) in
    let none : (es : List Entry) → share c es x w ≡ 0 = λ es. rw gone refl in
    let begins : w % period c i ≡ 0 = whole n (period c i) positive in
    let most = (bounded c past l.rules.checked l.rules.accepted l.rules.audited).0 x w (main-among c q past there) begins in
    let nothing = none (past_at past w) in
    let now = now-from c q w past begins (omega arith) (inside n (period c i) positive) in
    let used : (job c n past x).used ≡ 0 = (let same : (job c n past x).used ≡ (job_from c past x w).used = ap (λ j. j.used) now in omega (arith, same, most, nothing)) in
    let share_ : (job c n past x).share ≡ 0 = none past in
    empty c.costs.switch (job c n past x) used share_
  where
    whole : (n P : ℕ) → 0 < P → (n - n % P) % P ≡ 0
    whole n P positive =
        let parts = div-add-mod' n P in
        let same : n - n % P ≡ n / P * P + 0 = omega (arith, parts) in
        ap (λ k. k % P) same ∙ mod-mul-add (n / P) P 0 positive

    inside : (n P : ℕ) → 0 < P → n < n - n % P + P
    inside n P positive = grind (arith, nat_tests)

    empty : (W : ℕ) (j : Job) → j.used ≡ 0 → j.share ≡ 0 → (if j.closed then (if j.used == 0 then 0 else W - j.out_ticks) else j.share - j.used) ≡ 0
    empty W j used none = grind (arith, nat_tests)

-- nobody asks for slack
lends-none : (c : Configuration) (p : ℕ) (past : List Entry) (choice : Choice) (label : Label) (z : ThreadId) → AllLeave c p past → HasCause c past choice → HasChosenLabel choice label
    → borrower label ≡ Some z → ⊥
lends-none c p past (Choice.Kernel k) label z leaves cause has lends = let none = (kernel-says k label has).borrows in absurd (cc)
lends-none c p past (Choice.Budget x part) label z leaves cause has lends = let none = (budget-says x part label has).borrows in absurd (cc)
lends-none c p past (Choice.Slack x source part) label z leaves cause has lends =
    let some = cause.wants in let none = leave-wants c p past cause.row leaves in absurd (omega (arith, some, none))
lends-none c p past Choice.Idle label z leaves cause has lends = let none = (idle-says label has).borrows in absurd (cc)

-- the main of p in its window from s on, while it has had fewer than its budget: each tick is its own or the kernel's
abbrev had : Configuration → ℕ → ℕ → List Entry → ℕ
had c p s past = (job_from c past (main_thread c p) s).used

counted : (c : Configuration) (p s : ℕ) (e : Entry) (past : List Entry) → Left c p (e ∷ past) → s % period c (main_level c p) ≡ 0 → period c (main_level c p) ≤ s
    → s ≤ length past → length past < s + period c (main_level c p) → had c p s past < budget c p
    → 1 ≤ sum_from 0 (suc (main_level c p)) (λ i. kernel_paid i e) + spent (main_id p) e
counted c p s e past l begins second from within fewer = go (kind c past e l.rules.audited.1)
  where
    before : Left c p past
    before = left-before c p e past l

    left : 0 < now_rem c past (main_row c p past)
    left =
        let now = now-from c p s past begins from within in
        let used : (job c (length past) past (main_row c p past)).used ≡ had c p s past = ap (λ j. j.used) now in
        let rest = leave-rem c p p (length past) past before.leaves (own-runs c p past before.leaves) in
        omega (arith, used, rest, fewer)

    -- whoever has work at a level up to p's is p's main
    mine : (y : Thread) → Has (threads c past) y → 0 < now_rem c past y → y.level ≤ main_level c p → y ≡ main_row c p past
    mine y has some fast =
        let fit = threads-fit c past before.rules.checked before.rules.audited in
        let q = y.id.process in
        let there : q < length c.processes = (fit.rows y has).known in
        let place = subst (λ ys. Has ys y) (leave-alone c p q past before.leaves) (fit.place y has) in
        let is : y ≡ main_row c q past = only place in
        elim (cases_eq q p) [
          | inl same ↦ is ∙ ap (λ r. main_row c r past) same
          | inr other ↦
              let level : y.level ≡ main_level c q = ap (λ z. z.level) is in
              let low : main_level c q ≤ main_level c p = omega (arith, level, fast) in
              let known = before.rules.checked.levels p before.here in
              let positive = before.rules.checked.positive (main_level c q) (before.rules.checked.levels q there) in
              let long = before.rules.checked.positive (main_level c p) known in
              let divides = before.rules.checked.divides (main_level c q) (main_level c p) low known in
              let short = le_of_dvd long divides in
              let start = start-from c (main_level c q) s (length past) positive (dvd_trans (period c (main_level c q)) divides (dvd_of_mod-eq-zero (period c (main_level c p)) begins)) from in
              let none = others-done c p q past before other there (omega (arith, short, second, start)) in
              let zero_rem : now_rem c past y ≡ 0 = ap (now_rem c past) is ∙ none in
              absurd (omega (arith, zero_rem, some))
        ]
      where
        only : {x z : Thread} → Has (z ∷ []) x → x ≡ z
        only (inl same) = sym same
        only (inr later) = absurd later

    go : Kind c past e.label → 1 ≤ sum_from 0 (suc (main_level c p)) (λ i. kernel_paid i e) + spent (main_id p) e
    go (paid k y known passed has turn pays borrows at) =
        let fast = passed-faster c p k past before.here left passed in
        by-turn turn fast
      where
        by-turn : Turn c past k y → k ≤ main_level c p → 1 ≤ sum_from 0 (suc (main_level c p)) (λ i. kernel_paid i e) + spent (main_id p) e
        by-turn (by_hold holds level) fast = let free = ap is_holding (leave-free c p y.id past before.leaves) in absurd (cc)
        by-turn (by_share nobody first level some) fast =
            let is = mine y has some (omega (arith, level, fast)) in
            let pays' : payer e.label ≡ Some (main_id p) = pays ∙ ap (λ z. Some z.id) is in
            let one = spent-payer (main_id p) e pays' in
            omega (arith, one)
    go (lent k x known passed has none room pays borrows at) = absurd (not-lent borrows)
      where
        not-lent : borrower e.label ≡ Some x.id → ⊥
        not-lent lends = lends-none c p past (chosen c past) e.label x.id before.leaves (with_cause c past before.rules.checked before.rules.accepted before.rules.audited) l.rules.audited.1.choice lends
    go (kernel k known passed some pays borrows at) =
        let fast = passed-faster c p k past before.here left passed in
        let one = kernel_paid-level k e at in
        let term = sum_from-term 0 (suc (main_level c p)) (λ i. kernel_paid i e) k (omega arith) (omega (arith, fast)) in
        omega (arith, one, term)
    go (idle passed pays borrows at) =
        let known = before.rules.checked.levels p before.here in
        let none = (passed (main_level c p) known).ready (main_row c p past) (main-among c p past before.here) refl in
        let some = left in
        absurd (omega (arith, none, some))

-- what is left of the kernel's own work falls by its ticks
paid-left : (c : Configuration) (i : ℕ) (e : Entry) (past : List Entry) → Kind c past e.label → kernel_paid i e ≤ kernel_rem c (length past) past i
paid-left c i e past (paid k y known passed has turn pays borrows at) = grind (arith, nat_tests)
paid-left c i e past (lent k x known passed has none room pays borrows at) = grind (arith, nat_tests)
paid-left c i e past (kernel k known passed some pays borrows at) = grind (arith, nat_tests)
paid-left c i e past (idle passed pays borrows at) = grind (arith, nat_tests)

kernel-falls : (c : Configuration) (end i : ℕ) (e : Entry) (past : List Entry) → Kind c past e.label
    → kernel_left c end (length past) (e ∷ past) i + kernel_paid i e ≤ kernel_left c end (length past) past i
kernel-falls c end i e past is =
    let more = count-charged (is_kernel_at i) c e past i in
    let most = paid-left c i e past is in
    omega (arith, more, most)

kernel-goes : (c : Configuration) (end i : ℕ) (e : Entry) (past : List Entry) → 0 < period c i → suc (length past) < end
    → kernel_left c end (suc (length past)) (e ∷ past) i ≤ kernel_left c end (length past) (e ∷ past) i
kernel-goes c end i e past positive early =
    let n = length past in
    elim (mod-next n (period c i) positive) [
      | inl turn ↦
          let later = later-begins c i n end positive turn.0 turn.1 early in
          let product : release c i * windows_later c i n end ≡ release c i + release c i * windows_later c i (suc n) end = ap (λ k. release c i * k) later ∙ omega arith in
          omega (arith, product)
      | inr within ↦
          let stays = kernel_rem-moves c i n (e ∷ past) within in
          let same : release c i * windows_later c i (suc n) end ≡ release c i * windows_later c i n end = ap (λ k. release c i * k) (later-within c i n end within) in
          omega (arith, stays, same)
    ]

since-start : (s : ℕ) (past : List Entry) → length past ≤ s → since s past ≡ []
since-start s past le = let none : length past - s ≡ 0 = omega arith in ap (λ k. take k past) none

kernel-starts : (c : Configuration) (i s end : ℕ) (past : List Entry) → 0 < period c i → length past ≡ s → s % period c i ≡ 0 → s < end
    → kernel_left c end (length past) past i + kernels i s past ≤ release c i * windows_begun c i (end - s)
kernel-starts c i s end past positive at begins some =
    let n = length past in
    let begins' : n % period c i ≡ 0 = ap (λ k. k % period c i) at ∙ begins in
    let whole : n + (end - s) ≡ end = omega arith in
    let later = later-start c i n (end - s) positive begins' (omega arith) in
    let same : windows_later c i n (n + (end - s)) ≡ windows_later c i n end = ap (windows_later c i n) whole in
    let product : release c i * windows_begun c i (end - s) ≡ release c i + release c i * windows_later c i n end =
    ap (λ k. release c i * k) (later ∙ ap suc same) ∙ omega arith in
    let none : kernels i s past ≡ 0 = ap (count_by (is_kernel_at i)) (since-start s past (omega arith)) in
    omega (arith, product, none)

debit : (c : Configuration) (i s end : ℕ) (past : List Entry) → Rules c past → i < length c.levels → s % period c i ≡ 0 → s ≤ length past → length past < end
    → kernel_left c end (length past) past i + kernels i s past ≤ release c i * windows_begun c i (end - s)
debit c i s end [] know known begins le early = kernel-starts c i s end [] (know.checked.positive i known) (omega arith) begins (omega arith)
debit c i s end (e ∷ past) know known begins le early =
    elim (cases_lt (length past) s) [
      | inl new ↦ kernel-starts c i s end (e ∷ past) (know.checked.positive i known) (omega arith) begins (omega arith)
      | inr old ↦
          let before = debit c i s end past (rules-before c e past know) known begins old (omega arith) in
          let falls = kernel-falls c end i e past (kind c past e know.audited.1) in
          let goes = kernel-goes c end i e past (know.checked.positive i known) early in
          let next = kernels-next i s e past old in
          omega (arith, before, falls, goes, next)
    ]

-- by the present entry the kernel has had no more than the windows that have begun need
kernels-fit : (c : Configuration) (i s : ℕ) (e : Entry) (past : List Entry) → Rules c (e ∷ past) → i < length c.levels → s % period c i ≡ 0 → s ≤ length past
    → kernels i s (e ∷ past) ≤ release c i * windows_begun c i (suc (length past) - s)
kernels-fit c i s e past know known begins le =
    let before = debit c i s (suc (length past)) past (rules-before c e past know) known begins le (omega arith) in
    let falls = kernel-falls c (suc (length past)) i e past (kind c past e know.audited.1) in
    let next = kernels-next i s e past le in
    omega (arith, before, falls, next)

-- while the main has had fewer than k, all ticks of the window were its own or the kernel's
busy : (c : Configuration) (p s k : ℕ) (past : List Entry) → Left c p past → s % period c (main_level c p) ≡ 0 → period c (main_level c p) ≤ s → k ≤ budget c p
    → length past ≤ s + period c (main_level c p) → had c p s past < k → length past - s ≤ sum_from 0 (suc (main_level c p)) (λ i. kernels i s past) + had c p s past
busy c p s k [] l begins second few within fewer = omega arith
busy c p s k (e ∷ past) l begins second few within fewer =
    elim (cases_lt (length past) s) [
      | inl new ↦ omega arith
      | inr old ↦
          let m = main_level c p in
          let next = used-from c p s e past old (omega arith) in
          let before = busy c p s k past (left-before c p e past l) begins second few (omega arith) (omega (arith, next, fewer)) in
          let one = counted c p s e past l begins second old (omega arith) (omega (arith, next, fewer, few)) in
          let each = sum_from-eq 0 (suc m) (λ i. kernels i s (e ∷ past)) (λ i. kernel_paid i e + kernels i s past) (λ i. kernels-next i s e past old) in
          let add = sum_from-add 0 (suc m) (λ i. kernel_paid i e) (λ i. kernels i s past) in
          omega (arith, next, before, one, each, add)
    ]

-- the kernel's own work until then is what always comes before
all-fit : (c : Configuration) (p s f : ℕ) (past : List Entry) → Rules c past → p < length c.processes → NeverHoldsOff c p → s % period c (main_level c p) ≡ 0 → 0 < f
    → length past ≡ s + f → sum_from 0 (suc (main_level c p)) (λ i. kernels i s past) ≤ always_ahead c p f
all-fit c p s f [] know here never begins some at = absurd (omega arith)
all-fit c p s f (e ∷ past) know here never begins some at =
    let m = main_level c p in
    let there = know.checked.levels p here in
    let g : suc (length past) - s ≡ f = omega arith in
    sum_from-le 0 (suc m) (λ i. kernels i s (e ∷ past)) (λ i. release c i * windows_over c p i f)
    (λ i low high.
    let le : i ≤ m = omega (arith, high) in
    let fit = kernels-fit c i s e past know (omega (arith, there, le)) (begins-too c p i s know.checked here le begins) (omega (arith, at, some)) in
    let off : may_hold_off c p i ≡ false = never i le in
    let is : windows_over c p i f ≡ windows_begun c i f = rw off refl in
    let same : release c i * windows_over c p i f ≡ release c i * windows_begun c i f = ap (λ k. release c i * k) is in
    let plain : release c i * windows_begun c i (suc (length past) - s) ≡ release c i * windows_begun c i f = ap (λ k. release c i * windows_begun c i k) g in
    omega (arith, fit, same, plain))

pub soonest_is_met : (c : Configuration) → IsChecked c → IsAccepted c → SoonestIsMet c
soonest_is_met c checked accepted p k f here never few within room =
    let P = period c (main_level c p) in
    let past = leaving c p (P + f) in
    let size = leaving-length c p (P + f) in
    let audited = leaving-audited c p (P + f) checked accepted in
    let begins : P % P ≡ 0 = mod-eq-zero_of_dvd P (dvd_refl P) in
    let rules : Rules c past = record { checked = checked; accepted = accepted; audited = audited } in
    let l : Left c p past = record { rules = rules; here = here; leaves = leaving-leaves c p (P + f) } in
    record {
      past = past;
      audited = audited;
      start = P;
      begins = begins;
      ticks = size;
      had =
          elim (cases_lt (had c p P past) k) [
            | inr enough ↦ enough
            | inl fewer ↦
                elim (cases_lt 0 f) [
                  | inr none ↦ absurd (omega (arith, room, fewer, none))
                  | inl some ↦
                      let all = busy c p P k past l begins (omega arith) few (omega (arith, size, within)) fewer in
                      let fit = all-fit c p P f past rules here never begins some size in
                      absurd (omega (arith, all, fit, size, room, fewer))
                ]
          ];
    }
