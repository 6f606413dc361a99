-- The bound on by when is met: where all spin, a main has its k-th tick no sooner than all that may come before it is done.
use Rattle.dk_bound.proofs.Names.{ℕ, zero, suc, ◌≡◌, ◌+◌, ◌-◌, ◌*◌, ◌/◌, ◌<◌, ◌≤◌, inl, inr, Bool, true, false, ◌&&◌, eqb, leb, ltb, List, [], ◌∷◌, length, refl, sym, ap, ◌∙◌, subst, arith, Option, Some, None, MatchOption, unwrap_or, option_map, option_or, option_map_or, cases_Bool, cases_lt, cases_eq, and_from, or_parts, nat_tests, zero-mod, div_self, Configuration, IsChecked, IsAccepted, below, first_of, sum_from, period, release, main_level, slots, budget, window_start, windows_begun, stands_after, may_come_before, budgets_begun, process_ahead, ahead, IsEnough, sum_from-le, sum_from-add, sum_from-same, sum_from-zero, IsFirst, NoAnswer, first_of-is, option_or-none, option_map-some, ThreadId, Phase, Choice, Label, Entry, Has, payer, kernel_level, is_kernel_at, is_budget_of, Thread, threads, main_thread, family, job, thread_rem, kernel_rem, is_holding, is_holder, chosen, choice_at, work_at, slack_at, wish_at, holder_at, ready_at, on_budget, on_slack, fits, Audited, HasChosenLabel, past_at, job_from, mod-next, spent, count-charged, count-begins, main_id, main_row, family-children, children, kernel_paid, one_or_none, paid_by_kernel, budget-labels, slack-labels, chosen-says, payer-none, find-flat, row-of, threads-fit, same-row, job_at, job-moves, Passed, Turn, by_hold, by_share, now_rem, no-work, turn-of, IsPlainFor, BoundIsMet}
use Rattle.dk_bound.proofs.ClockMoves.{windows_are_done, mod-begins}
use Rattle.dk_bound.proofs.Demands.{process_paid, kernel_rem-moves}
use Rattle.dk_bound.proofs.Bounded.{past_at-later, window-start}
use Rattle.dk_bound.proofs.Ahead.{windows_later, later-within, later-begins, later-start, kernel_left, process_left, work_ahead, paid_before, each-le}
use Rattle.dk_bound.proofs.Before.{main-among}
use Rattle.dk_bound.proofs.ByWhen.{goes-on}
use Rattle.dk_bound.proofs.Spinning.{AllSpin, spinning, spinning-spins, spinning-length, spinning-audited, spin-held, spin-main, spin-share, spin-open, spin-rem, spin-demand, spin-paid}

-- all that is known along a list in which all spin
record Spun (c : Configuration) (p : ℕ) (past : List Entry) : Type 0 where
  checked : IsChecked c
  accepted : IsAccepted c
  audited : Audited c past
  here : p < length c.processes
  plain : IsPlainFor c p
  spins : AllSpin past

spun-before : (c : Configuration) (p : ℕ) (e : Entry) (past : List Entry) → Spun c p (e ∷ past) → Spun c p past
spun-before c p e past s =
    record { checked = s.checked; accepted = s.accepted; audited = s.audited.0; here = s.here; plain = s.plain; spins = s.spins.0 }

-- of a process that may come before, its main alone may
record Stood (c : Configuration) (p q b : ℕ) : Type 0 where
  own : b ≡ main_level c q
  low : main_level c q ≤ main_level c p
  first : main_level c q ≡ main_level c p → q < p

stood : (c : Configuration) (p q b : ℕ) → slots c q ≡ 0 → may_come_before c p q ≡ Some b → Stood c p q b
stood c p q b few is =
    elim (cases_Bool (stands_after c p q)) [
      | inl after ↦ let none : None ≡ Some b = rw after at is in absurd (cc)
      | inr before ↦
          let alone : eqb (slots c q) 0 ≡ true = grind (arith, nat_tests) in
          let some : Some (main_level c q) ≡ Some b = rw (before, alone) at is in
          let parts = or_parts (ltb (main_level c p) (main_level c q)) ((eqb (main_level c q) (main_level c p)) && leb p q) before in
          let fast : ltb (main_level c p) (main_level c q) ≡ false = parts.0 in
          record {
            own = cc;
            low = grind (arith, nat_tests);
            first =
                λ same. (let at : eqb (main_level c q) (main_level c p) ≡ true = grind (arith, nat_tests) in
                let second : leb p q ≡ false = not-both (eqb (main_level c q) (main_level c p)) (leb p q) parts.1 at in
                grind (arith, nat_tests));
          }
    ]
  where
    not-both : (a b : Bool) → (a && b) ≡ false → a ≡ true → b ≡ false
    not-both true b h t = h
    not-both false b h t = absurd (cc)

full-window : (c : Configuration) (q : ℕ) → 0 < period c (main_level c q) → budget c q * (period c (main_level c q) / period c (main_level c q)) ≡ budget c q
full-window c q positive = let one : period c (main_level c q) / period c (main_level c q) ≡ 1 = div_self positive in rw one (omega arith)

-- an entry does no more than it pays for
kernel-spent : (c : Configuration) (end i : ℕ) (e : Entry) (past : List Entry)
    → kernel_left c end (length past) past i ≤ kernel_left c end (length past) (e ∷ past) i + kernel_paid i e
kernel-spent c end i e past = let more = count-charged (is_kernel_at i) c e past i in omega (arith, more)

process-spent : (c : Configuration) (p end q b : ℕ) (e : Entry) (past : List Entry) → Spun c p (e ∷ past) → b ≡ main_level c q
    → process_left c end (length past) past q b ≤ process_left c end (length past) (e ∷ past) q b + process_paid c q b e past
process-spent c p end q b e past s own =
    subst (λ l. process_left c end (length past) past q l ≤ process_left c end (length past) (e ∷ past) q l + process_paid c q l e past) (sym own)
    (let n = length past in
    let before = spin-demand c q n past s.spins.0 ∙ spin-rem c q n past s.spins.0 in
    let after = spin-demand c q n (e ∷ past) s.spins ∙ spin-rem c q n (e ∷ past) s.spins in
    let used : (job c n (e ∷ past) (main_row c q (e ∷ past))).used ≡ spent (main_id q) e + (job c n past (main_row c q past)).used = count-charged (is_budget_of (main_id q)) c e past (main_level c q) in
    let pays = spin-paid c q e past s.spins.0 in
    omega (arith, before, after, used, pays))

-- nor does a window that begins bring less than was counted for it
kernel-comes : (c : Configuration) (p end i : ℕ) (e : Entry) (past : List Entry) → Spun c p (e ∷ past) → i < length c.levels → suc (length past) < end
    → kernel_left c end (length past) (e ∷ past) i ≤ kernel_left c end (suc (length past)) (e ∷ past) i
kernel-comes c p end i e past s known early =
    let n = length past in
    let positive = s.checked.positive i known in
    elim (mod-next n (period c i) positive) [
      | inl turn ↦
          let later = later-begins c i n end positive turn.0 turn.1 early in
          let product : release c i * windows_later c i n end ≡ release c i + release c i * windows_later c i (suc n) end = ap (λ k. release c i * k) later ∙ omega arith in
          let none = count-begins (is_kernel_at i) c (e ∷ past) i turn.0 in
          let done = (windows_are_done c e past s.checked s.accepted s.audited).kernel i known (mod-begins c i (suc n) turn.0) in
          omega (arith, product, none, done)
      | inr within ↦
          let stays = kernel_rem-moves c i n (e ∷ past) within in
          let same : release c i * windows_later c i (suc n) end ≡ release c i * windows_later c i n end = ap (λ k. release c i * k) (later-within c i n end within) in
          omega (arith, stays, same)
    ]

process-comes : (c : Configuration) (p end q b : ℕ) (e : Entry) (past : List Entry) → Spun c p (e ∷ past) → q < length c.processes → b ≡ main_level c q → suc (length past) < end
    → process_left c end (length past) (e ∷ past) q b ≤ process_left c end (suc (length past)) (e ∷ past) q b
process-comes c p end q b e past s there own early =
    subst (λ l. process_left c end (length past) (e ∷ past) q l ≤ process_left c end (suc (length past)) (e ∷ past) q l) (sym own)
    (let n = length past in
    let l = main_level c q in
    let x = main_row c q (e ∷ past) in
    let K = budget c q * (period c l / period c l) in
    let known = s.checked.levels q there in
    let positive = s.checked.positive l known in
    let whole = full-window c q positive in
    let before = spin-demand c q n (e ∷ past) s.spins in
    let after = spin-demand c q (suc n) (e ∷ past) s.spins in
    elim (mod-next n (period c l) positive) [
      | inl turn ↦
          let later = later-begins c l n end positive turn.0 turn.1 early in
          let product : K * windows_later c l n end ≡ K + K * windows_later c l (suc n) end = ap (λ k. K * k) later ∙ omega arith in
          let none : (job c (suc n) (e ∷ past) x).used ≡ 0 = count-begins (is_budget_of (main_id q)) c (e ∷ past) l turn.0 in
          let fresh = spin-rem c q (suc n) (e ∷ past) s.spins in
          let done = (windows_are_done c e past s.checked s.accepted s.audited).rems x (main-among c q (e ∷ past) there) (mod-begins c l (suc n) turn.0) in
          omega (arith, product, none, fresh, done, before, after, whole)
      | inr within ↦
          let stays : thread_rem c (suc n) (e ∷ past) x ≡ thread_rem c n (e ∷ past) x =
          spin-rem c q (suc n) (e ∷ past) s.spins ∙ ap (λ j. budget c q - j.used) (job-moves c n (e ∷ past) x within) ∙ sym (spin-rem c q n (e ∷ past) s.spins) in
          let same : K * windows_later c l (suc n) end ≡ K * windows_later c l n end = ap (λ k. K * k) (later-within c l n end within) in
          omega (arith, stays, same, before, after)
    ])

each-split : (o : Option ℕ) (f g h : ℕ → ℕ) → ((b : ℕ) → o ≡ Some b → f b ≤ g b + h b) → option_map_or f o 0 ≤ option_map_or g o 0 + option_map_or h o 0
each-split o f g h le = grind (arith, nat_tests)

work-spent : (c : Configuration) (p end : ℕ) (e : Entry) (past : List Entry) → Spun c p (e ∷ past)
    → work_ahead c p end (length past) past ≤ work_ahead c p end (length past) (e ∷ past) + paid_by_kernel (main_level c p) e + paid_before c p e past
work-spent c p end e past s =
    let n = length past in
    let m = main_level c p in
    let N = length c.processes in
    let before : ℕ → ℕ = λ q. option_map_or (process_left c end n past q) (may_come_before c p q) 0 in
    let after : ℕ → ℕ = λ q. option_map_or (process_left c end n (e ∷ past) q) (may_come_before c p q) 0 in
    let pays : ℕ → ℕ = λ q. option_map_or (λ b. process_paid c q b e past) (may_come_before c p q) 0 in
    let kernel = sum_from-le 0 (suc m) (kernel_left c end n past) (λ i. kernel_left c end n (e ∷ past) i + kernel_paid i e) (λ i a b. kernel-spent c end i e past) in
    let split = sum_from-add 0 (suc m) (kernel_left c end n (e ∷ past)) (λ i. kernel_paid i e) in
    let all = sum_from-le 0 N before (λ q. after q + pays q)
    (λ q from under. each-split (may_come_before c p q) (process_left c end n past q) (process_left c end n (e ∷ past) q) (λ b. process_paid c q b e past)
    (λ b is. process-spent c p end q b e past s (stood c p q b (s.plain.children q (omega arith)) is).own)) in
    let split' = sum_from-add 0 N after pays in
    omega (arith, kernel, split, all, split')

work-comes : (c : Configuration) (p end : ℕ) (e : Entry) (past : List Entry) → Spun c p (e ∷ past) → suc (length past) < end
    → work_ahead c p end (length past) (e ∷ past) ≤ work_ahead c p end (suc (length past)) (e ∷ past)
work-comes c p end e past s early =
    let n = length past in
    let m = main_level c p in
    let N = length c.processes in
    let known = s.checked.levels p s.here in
    let kernel = sum_from-le 0 (suc m) (kernel_left c end n (e ∷ past)) (kernel_left c end (suc n) (e ∷ past))
    (λ i a b. kernel-comes c p end i e past s (omega arith) early) in
    let all = sum_from-le 0 N (λ q. option_map_or (process_left c end n (e ∷ past) q) (may_come_before c p q) 0)
    (λ q. option_map_or (process_left c end (suc n) (e ∷ past) q) (may_come_before c p q) 0)
    (λ q from under. each-le (may_come_before c p q) (process_left c end n (e ∷ past) q) (process_left c end (suc n) (e ∷ past) q)
    (λ b is. process-comes c p end q b e past s (omega arith) (stood c p q b (s.plain.children q (omega arith)) is).own early)) in
    omega (arith, kernel, all)

-- at tick 0 all is still to come
kernel-first : (c : Configuration) (f i : ℕ) → 0 < period c i → 0 < f → release c i * windows_begun c i f ≤ kernel_left c f 0 [] i
kernel-first c f i positive some =
    let later = later-start c i 0 f positive (zero-mod (period c i)) some in
    let same : windows_later c i 0 (0 + f) ≡ windows_later c i 0 f = (let plain : 0 + f ≡ f = omega arith in ap (windows_later c i 0) plain) in
    let product : release c i * windows_begun c i f ≡ release c i + release c i * windows_later c i 0 f =
    ap (λ k. release c i * k) (later ∙ ap suc same) ∙ omega arith in
    let none = count-begins (is_kernel_at i) c [] i (zero-mod (period c i)) in
    omega (arith, product, none)

process-first : (c : Configuration) (f q b : ℕ) → 0 < period c (main_level c q) → b ≡ main_level c q → 0 < f → budgets_begun c q f b ≤ process_left c f 0 [] q b
process-first c f q b positive own some =
    subst (λ l. budgets_begun c q f l ≤ process_left c f 0 [] q l) (sym own)
    (let l = main_level c q in
    let K = budget c q * (period c l / period c l) in
    let later = later-start c l 0 f positive (zero-mod (period c l)) some in
    let same : windows_later c l 0 (0 + f) ≡ windows_later c l 0 f = (let plain : 0 + f ≡ f = omega arith in ap (windows_later c l 0) plain) in
    let product : K * windows_begun c l f ≡ K + K * windows_later c l 0 f = ap (λ k. K * k) (later ∙ ap suc same) ∙ omega arith in
    let whole = full-window c q positive in
    let none : (job c 0 [] (main_row c q [])).used ≡ 0 = count-begins (is_budget_of (main_id q)) c [] l (zero-mod (period c l)) in
    let fresh = spin-demand c q 0 [] tt ∙ spin-rem c q 0 [] tt in
    omega (arith, product, whole, none, fresh))

all-first : (c : Configuration) (p f : ℕ) → IsChecked c → p < length c.processes → IsPlainFor c p → 0 < f → ahead c p f ≤ work_ahead c p f 0 []
all-first c p f checked here plain some =
    let m = main_level c p in
    let N = length c.processes in
    let known = checked.levels p here in
    let free = plain.holds in
    let kernel = sum_from-le 0 (suc m) (λ i. release c i * windows_begun c i f) (kernel_left c f 0 []) (λ i a b. kernel-first c f i (checked.positive i (omega arith)) some) in
    let all = sum_from-le 0 N (process_ahead c p f) (λ q. option_map_or (process_left c f 0 [] q) (may_come_before c p q) 0)
    (λ q from under. each-le (may_come_before c p q) (budgets_begun c q f) (process_left c f 0 [] q)
    (λ b is. process-first c f q b (checked.positive (main_level c q) (checked.levels q (omega arith))) (stood c p q b (plain.children q (omega arith)) is).own some)) in
    omega (arith, free, kernel, all)

all-none : (low n : ℕ) (g : ℕ → ℕ) → ((q : ℕ) → low ≤ q → q < low + n → g q ≡ 0) → sum_from low n g ≡ 0
all-none low n g none = sum_from-same low n g (λ q. 0) none ∙ sum_from-zero low n

-- a tick is paid by one at most
one-at_most : (low n r : ℕ) (g : ℕ → ℕ) → ((q : ℕ) → low ≤ q → q < low + n → (q ≡ r → ⊥) → g q ≡ 0) → ((q : ℕ) → low ≤ q → q < low + n → g q ≤ 1) → sum_from low n g ≤ 1
one-at_most low zero r g others one = omega arith
one-at_most low (suc n) r g others one =
    elim (cases_eq low r) [
      | inl same ↦
          let rest : sum_from (suc low) n g ≡ 0 = all-none (suc low) n g (λ q a b. others q (omega arith) (omega arith) (λ is. omega arith)) in
          let first = one low (omega arith) (omega arith) in
          omega (arith, rest, first)
      | inr other ↦
          let first = others low (omega arith) (omega arith) (λ is. other is) in
          let rest = one-at_most (suc low) n r g (λ q a b. others q (omega arith) (omega arith)) (λ q a b. one q (omega arith) (omega arith)) in
          omega (arith, first, rest)
    ]

kernel-once : (n : ℕ) (e : Entry) → sum_from 0 n (λ i. kernel_paid i e) ≤ 1
kernel-once n e = go (kernel_level e.label) refl
  where
    other : (k q : ℕ) → (q ≡ k → ⊥) → eqb k q ≡ false
    other k q apart = elim (cases_Bool (eqb k q)) [ inl same ↦ absurd (apart (grind (arith, nat_tests))) | inr fine ↦ fine ]

    go : (o : Option ℕ) → kernel_level e.label ≡ o → sum_from 0 n (λ i. kernel_paid i e) ≤ 1
    go None is = one-at_most 0 n 0 (λ i. kernel_paid i e) (λ q a b apart. rw is refl) (λ q a b. one_or_none (is_kernel_at q e))
    go (Some k) is =
        one-at_most 0 n k (λ i. kernel_paid i e)
        (λ q a b apart. let no : eqb k q ≡ false = other k q apart in rw (is, no) refl) (λ q a b. one_or_none (is_kernel_at q e))

own-none : (c : Configuration) (p : ℕ) → may_come_before c p p ≡ None
own-none c p = grind (arith, nat_tests)

abbrev paid_of : Configuration → ℕ → Entry → List Entry → ℕ → ℕ
paid_of c p e past q = option_map_or (λ b. process_paid c q b e past) (may_come_before c p q) 0

paid-main : (c : Configuration) (p q : ℕ) (e : Entry) (past : List Entry) → slots c q ≡ 0 → AllSpin past → paid_of c p e past q ≤ spent (main_id q) e
paid-main c p q e past few spins = grind (arith, nat_tests, process_paid, spent, main_id, stood, spin-paid)

pub payer-no-kernel : (label : Label) (x : ThreadId) → payer label ≡ Some x → kernel_level label ≡ None
payer-no-kernel label x h = grind (arith, nat_tests)

spent-other : (q : ℕ) (x : ThreadId) (e : Entry) → payer e.label ≡ Some x → (q ≡ x.process → ⊥) → spent (main_id q) e ≡ 0
spent-other q x e pays apart = grind (arith, nat_tests)

paid-once : (c : Configuration) (p : ℕ) (e : Entry) (past : List Entry) → Spun c p past → paid_by_kernel (main_level c p) e + paid_before c p e past + spent (main_id p) e ≤ 1
paid-once c p e past s = go (payer e.label) refl
  where
    go : (o : Option ThreadId) → payer e.label ≡ o → paid_by_kernel (main_level c p) e + paid_before c p e past + spent (main_id p) e ≤ 1
    go None pays =
        let kernel = kernel-once (suc (main_level c p)) e in
        let none : (q : ℕ) → spent (main_id q) e ≡ 0 = λ q. let no = payer-none (main_id q) e pays in rw no refl in
        let all : paid_before c p e past ≡ 0 = all-none 0 (length c.processes) (paid_of c p e past)
        (λ q a b. let most = paid-main c p q e past (s.plain.children q (omega arith)) s.spins in let zero_paid = none q in omega arith) in
        let own = none p in
        omega (arith, kernel, all, own)
    go (Some x) pays =
        let off = payer-no-kernel e.label x pays in
        let kernel : paid_by_kernel (main_level c p) e ≡ 0 = all-none 0 (suc (main_level c p)) (λ i. kernel_paid i e) (λ i a b. rw off refl) in
        elim (cases_eq p x.process) [
          | inl mine ↦
              let all : paid_before c p e past ≡ 0 = all-none 0 (length c.processes) (paid_of c p e past)
              (λ q a b. elim (cases_eq q p) [
                | inl same ↦ subst (λ r. paid_of c p e past r ≡ 0) (sym same) (ap (λ o. option_map_or (λ b. process_paid c p b e past) o 0) (own-none c p))
                | inr other ↦
                    let most = paid-main c p q e past (s.plain.children q (omega arith)) s.spins in
                    let zero_paid = spent-other q x e pays (λ is. other (is ∙ sym mine)) in
                    omega arith
              ]) in
              let one = one_or_none (is_budget_of (main_id p) e) in
              omega (arith, kernel, all, one)
          | inr theirs ↦
              let own = spent-other p x e pays theirs in
              let all : paid_before c p e past ≤ 1 = one-at_most 0 (length c.processes) x.process (paid_of c p e past)
              (λ q a b apart.
              let most = paid-main c p q e past (s.plain.children q (omega arith)) s.spins in
              let zero_paid = spent-other q x e pays apart in
              omega arith)
              (λ q a b.
              let most = paid-main c p q e past (s.plain.children q (omega arith)) s.spins in
              let one = one_or_none (is_budget_of (main_id q) e) in
              omega arith) in
              omega (arith, kernel, own, all)
        ]

-- what was chosen to run on its budget: its level's kernel had nothing left, and it was the level's turn
record Picked (c : Configuration) (past : List Entry) (x : ThreadId) : Type 0 where
  place : ℕ
  passed : Passed c past place
  kernel : kernel_rem c (length past) past place ≡ 0
  who : Thread
  among : Has (threads c past) who
  turn : Turn c past place who
  same : who.id ≡ x

picked-at : (c : Configuration) (past : List Entry) (choice : Choice) (x : ThreadId) (part : Phase) → IsFirst (choice_at c past) 0 (0 + length c.levels) choice
    → choice ≡ Choice.Budget x part → Picked c past x
picked-at c past choice x part first is = go (work_at c past first.place) refl (first.answer ∙ ap Some is)
  where
    go : (work : Option Choice) → work_at c past first.place ≡ work → option_or work (slack_at c past first.place) ≡ Some (Choice.Budget x part) → Picked c past x
    go None w h =
        elim (cases_Bool (fits c (length past) past)) [
          | inl fitting ↦
              let lends : option_map (on_slack c past) (wish_at c past first.place) ≡ Some (Choice.Budget x part) = rw fitting at h in
              let r = option_map-some (on_slack c past) (wish_at c past first.place) (Choice.Budget x part) lends in
              let wrong : on_slack c past r.0 ≡ Choice.Budget x part = r.2 in
              absurd (cc)
          | inr tight ↦ let wrong : None ≡ Some (Choice.Budget x part) = rw tight at h in absurd (cc)
        ]
    go (Some work) w h =
        let all : work_at c past first.place ≡ Some (Choice.Budget x part) = w ∙ h in
        elim (cases_Bool (ltb 0 (kernel_rem c (length past) past first.place))) [
          | inl some ↦ let wrong : Some (Choice.Kernel first.place) ≡ Some (Choice.Budget x part) = rw some at all in absurd (cc)
          | inr none ↦
              let thread : option_map (on_budget c past) (option_or (holder_at c past first.place) (ready_at c past first.place)) ≡ Some (Choice.Budget x part) = rw none at all in
              let r = option_map-some (on_budget c past) (option_or (holder_at c past first.place) (ready_at c past first.place)) (Choice.Budget x part) thread in
              let t = turn-of c past first.place r.0 (holder_at c past first.place) refl r.1 in
              let budget_is : on_budget c past r.0 ≡ Choice.Budget x part = r.2 in
              record {
                place = first.place;
                passed = λ i less. no-work c past i (option_or-none (work_at c past i) (slack_at c past i) (first.before i (omega arith) less));
                kernel = grind (arith, nat_tests);
                who = r.0;
                among = t.0;
                turn = t.1;
                same = cc;
              }
        ]

picked-of : (c : Configuration) (past : List Entry) (x : ThreadId) (part : Phase) → chosen c past ≡ Choice.Budget x part → Picked c past x
picked-of c past x part is = go (first_of (choice_at c past) (below (length c.levels))) (first_of-is (choice_at c past) 0 (length c.levels)) is
  where
    go : (o : Option Choice) → MatchOption o (NoAnswer (choice_at c past) 0 (0 + length c.levels)) (IsFirst (choice_at c past) 0 (0 + length c.levels))
        → unwrap_or o Choice.Idle ≡ Choice.Budget x part → Picked c past x
    go None none h = absurd (cc)
    go (Some choice) first h = picked-at c past choice x part first h

budget-chosen : (choice : Choice) (label : Label) (x : ThreadId) → HasChosenLabel choice label → payer label ≡ Some x → (part : Phase) × (choice ≡ Choice.Budget x part)
budget-chosen (Choice.Kernel k) label x has pays = let none : payer label ≡ None = chosen-says payer (Choice.Kernel k) label None has (λ w. refl) in absurd (cc)
budget-chosen (Choice.Budget y part) label x has pays =
    let is : payer label ≡ Some y = chosen-says payer (Choice.Budget y part) label (Some y) has (λ w. (budget-labels y part w).0) in
    let same : y ≡ x = cc in
    (part, ap (λ z. Choice.Budget z part) same)
budget-chosen (Choice.Slack y source part) label x has pays =
    let none : payer label ≡ None = chosen-says payer (Choice.Slack y source part) label None has (λ w. (slack-labels y source part w).0) in absurd (cc)
budget-chosen Choice.Idle label x has pays = let none : payer label ≡ None = chosen-says payer Choice.Idle label None has (λ w. refl) in absurd (cc)

none-later : (c : Configuration) (i n : ℕ) → 0 < period c i → windows_later c i n (suc n) ≡ 0
none-later c i n positive = grind (arith, nat_tests)

-- where a main is chosen, nothing of what may come before it is left
none-ahead : (c : Configuration) (p : ℕ) (past : List Entry) → Spun c p past → Picked c past (main_id p) → work_ahead c p (suc (length past)) (length past) past ≡ 0
none-ahead c p past s picked =
    let who_is : picked.who ≡ main_row c p past = same-row (threads c past) picked.who (main_row c p past) (threads-fit c past s.checked s.audited).distinct picked.among (main-among c p past s.here) picked.same in
    by-turn picked.turn who_is
  where
    rem-none : (q : ℕ) → q < length c.processes → ready_at c past (main_level c p) ≡ Some picked.who → main_level c q ≡ main_level c p → q < p
        → thread_rem c (length past) past (main_row c q past) ≡ 0
    rem-none q there first same less =
        let m = main_level c p in
        let x = main_row c q past in
        elim (cases_lt 0 (now_rem c past x)) [
          | inr none ↦ omega arith
          | inl some ↦
              let at : eqb x.level m ≡ true = grind (arith, nat_tests) in
              let left : ltb 0 (now_rem c past x) ≡ true = grind (arith, nat_tests) in
              let passes : ((eqb x.level m) && ltb 0 (now_rem c past x)) ≡ true = and_from (eqb x.level m) (ltb 0 (now_rem c past x)) at left in
              let own : picked.who.id.process ≡ p = ap (λ i. i.process) picked.same in
              elim (find-flat (λ z. (eqb z.level m) && ltb 0 (now_rem c past z)) (λ r. family c r past) 0 (length c.processes) q x (children c q past) picked.who
              (family-children c q past) passes (omega arith) (omega arith) first) [
                | inl is ↦ let process : picked.who.id.process ≡ q = ap (λ z. z.id.process) is in absurd (omega arith)
                | inr earlier ↦
                    let low = earlier.1 in
                    let process = (row-of c earlier.0 past picked.who s.checked (omega arith) s.audited earlier.2).process in
                    absurd (omega arith)
              ]
        ]

    each : (q : ℕ) → q < length c.processes → ready_at c past (main_level c p) ≡ Some picked.who → picked.place ≡ main_level c p → (o : Option ℕ) → may_come_before c p q ≡ o
        → option_map_or (process_left c (suc (length past)) (length past) past q) o 0 ≡ 0
    each q there first here None is = refl
    each q there first here (Some b) is =
        let n = length past in
        let st = stood c p q b (s.plain.children q there) is in
        let low = st.low in
        let done : thread_rem c n past (main_row c q past) ≡ 0 =
        elim (cases_lt (main_level c q) (main_level c p)) [
          | inl faster ↦ (picked.passed (main_level c q) (omega arith)).ready (main_row c q past) (main-among c q past there) refl
          | inr level ↦ let same : main_level c q ≡ main_level c p = omega arith in rem-none q there first same (st.first same)
        ] in
        subst (λ l. process_left c (suc n) n past q l ≡ 0) (sym st.own)
        (let l = main_level c q in
        let K = budget c q * (period c l / period c l) in
        let demand = spin-demand c q n past s.spins in
        let later = none-later c l n (s.checked.positive l (s.checked.levels q there)) in
        let product : K * windows_later c l n (suc n) ≡ 0 = ap (λ k. K * k) later ∙ omega arith in
        omega (arith, demand, done, product))

    by-turn : Turn c past picked.place picked.who → picked.who ≡ main_row c p past → work_ahead c p (suc (length past)) (length past) past ≡ 0
    by-turn (by_hold holds level) who_is = let free : is_holder past picked.who ≡ false = ap is_holding (spin-held picked.who.id past s.spins) in absurd (cc)
    by-turn (by_share nobody first level left) who_is =
        let n = length past in
        let m = main_level c p in
        let here : picked.place ≡ m = sym level ∙ ap (λ x. x.level) who_is in
        let known = s.checked.levels p s.here in
        let kernel : sum_from 0 (suc m) (kernel_left c (suc n) n past) ≡ 0 = all-none 0 (suc m) (kernel_left c (suc n) n past)
        (λ i a b. let later = none-later c i n (s.checked.positive i (omega arith)) in
        let product : release c i * windows_later c i n (suc n) ≡ 0 = ap (λ k. release c i * k) later ∙ omega arith in
        let done : kernel_rem c n past i ≡ 0 =
        elim (cases_lt i m) [
          | inl faster ↦ (picked.passed i (omega arith)).kernel
          | inr own ↦ let same : i ≡ picked.place = omega arith in subst (λ k. kernel_rem c n past k ≡ 0) (sym same) picked.kernel
        ] in
        omega (arith, product, done)) in
        let others = all-none 0 (length c.processes) (λ q. option_map_or (process_left c (suc n) n past q) (may_come_before c p q) 0)
        (λ q a b. each q (omega arith) (subst (λ k. ready_at c past k ≡ Some picked.who) here first) here (may_come_before c p q) refl) in
        omega (arith, kernel, others)

abbrev used_now : Configuration → ℕ → List Entry → ℕ
used_now c p past = (job c (length past) past (main_row c p past)).used

used-next : (c : Configuration) (p : ℕ) (e : Entry) (past : List Entry) → Spun c p (e ∷ past) → suc (length past) < period c (main_level c p)
    → used_now c p (e ∷ past) ≡ spent (main_id p) e + used_now c p past
used-next c p e past s within =
    let m = main_level c p in
    let n = length past in
    let on = goes-on c m 0 n (s.checked.positive m (s.checked.levels p s.here)) (zero-mod (period c m)) (omega arith) (omega arith) in
    ap (λ j. j.used) (job-moves c n (e ∷ past) (main_row c p (e ∷ past)) on) ∙ count-charged (is_budget_of (main_id p)) c e past m

-- all that may come before until a tick is still to come, or was done in the ticks that the main didn't have
credit : (c : Configuration) (p end : ℕ) (past : List Entry) → Spun c p past → length past < end → end ≤ period c (main_level c p)
    → ahead c p end + used_now c p past ≤ work_ahead c p end (length past) past + length past
credit c p end [] s early within =
    let all = all-first c p end s.checked s.here s.plain (omega arith) in
    let none : used_now c p [] ≡ 0 = count-begins (is_budget_of (main_id p)) c [] (main_level c p) (zero-mod (period c (main_level c p))) in
    omega (arith, all, none)
credit c p end (e ∷ past) s early within =
    let before = credit c p end past (spun-before c p e past s) (omega arith) within in
    let work = work-spent c p end e past s in
    let comes = work-comes c p end e past s early in
    let one = paid-once c p e past (spun-before c p e past s) in
    let used = used-next c p e past s (omega arith) in
    omega (arith, before, work, comes, one, used)

-- a tick of the main comes when all that may come before it until then is done
tick-enough : (c : Configuration) (p k : ℕ) (e : Entry) (past : List Entry) → Spun c p (e ∷ past) → suc (length past) ≤ period c (main_level c p)
    → payer e.label ≡ Some (main_id p) → k ≤ suc (used_now c p past) → IsEnough c p k (suc (length past))
tick-enough c p k e past s within pays few =
    let n = length past in
    let before = spun-before c p e past s in
    let chosen_is = budget-chosen (chosen c past) e.label (main_id p) s.audited.1.choice pays in
    let none = none-ahead c p past before (picked-of c past (main_id p) chosen_is.0 chosen_is.1) in
    let sum = credit c p (suc n) past before (omega arith) within in
    record { within = within; room = inr (s.plain.slack, omega (arith, none, sum, few)) }

fewer : (c : Configuration) (p k t : ℕ) (past : List Entry) → Spun c p past → 0 < k → length past ≤ t → t < period c (main_level c p)
    → ((f : ℕ) → IsEnough c p k f → t < f) → used_now c p past < k
fewer c p k t [] s some le within least = grind (arith, nat_tests, count-begins, main_id, zero-mod, spun-before, used-next, spent, one_or_none, tick-enough)
fewer c p k t (e ∷ past) s some le within least = grind (arith, nat_tests, count-begins, main_id, zero-mod, spun-before, used-next, spent, one_or_none, tick-enough, fewer c p k t past)

pub bound_is_met : (c : Configuration) → IsChecked c → IsAccepted c → BoundIsMet c
bound_is_met c checked accepted p k t here plain some few least =
    let m = main_level c p in
    let P = period c m in
    let within : t < P = least P (record { within = omega arith; room = inl refl }) in
    let past = spinning c t in
    let size = spinning-length c t in
    let all = spinning-spins c t in
    let audited = spinning-audited c t in
    let s : Spun c p past = record { checked = checked; accepted = accepted; audited = audited; here = here; plain = plain; spins = all } in
    let low : used_now c p past < k = fewer c p k t past s some (omega arith) within least in
    let x = main_row c p past in
    let is : x ≡ main_thread c p = spin-main c p past all in
    let start = window-start c m 0 (length past) (zero-mod P) (omega arith) (omega arith) in
    let same : (job c (length past) past x).used ≡ (job c 0 past x).used = ap (λ w. (job_at c w past x).used) start in
    let low' : (job c 0 past x).used < k = omega (arith, low, same) in
    let whole : (job c 0 past x).share ≡ budget c p = spin-share c p (window_start c m 0) past all in
    let later : past_at past (0 + P) ≡ past = past_at-later past (0 + P) (omega arith) in
    record {
      past = past;
      audited = audited;
      ticks = size;
      among = subst (Has (threads c past)) is (main-among c p past here);
      some = subst (λ y. (job_from c past y 0).used < k) is (subst (λ es. (job c 0 es x).used < k) (sym later) low');
      enough = subst (λ y. k ≤ (job_from c past y 0).share) is (subst (λ es. k ≤ (job c 0 es x).share) (sym later) (omega (arith, whole, few)));
      running = subst (λ y. (job_from c past y 0).closed ≡ false) is (subst (λ es. (job c 0 es x).closed ≡ false) (sym later) (spin-open c p 0 past all));
    }
