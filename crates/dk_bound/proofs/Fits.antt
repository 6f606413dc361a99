-- What a level with unfinished work still needs fits its window, after each entry and after the move to the next tick.
use Rattle.dk_bound.proofs.Names.{ℕ, suc, ◌≡◌, ◌+◌, ◌-◌, ◌%◌, ◌<◌, ◌≤◌, inl, inr, true, cond, eqb, leb, List, [], ◌∷◌, length, refl, sym, ap, subst, arith, Some, None, cases_Bool, nat_tests, zero-mod, Configuration, period, window_end, Phase, Source, Choice, Entry, kernel_level, threads, job, phase, thread_rem, kernel_rem, is_entering, source, blocking, own_demand, remaining_demand, kernel_demand, chosen, HasChosenLabel, Audited, mod-next, window_start-within, sum_from-term, paid_by_kernel, kernel-none, budget-labels, slack-labels, chosen-says, IsChecked, IsAccepted, DemandFits, BlocksAtMost, sum_by-le, Fair, kernel_works, thread_works, thread_borrows, nobody, AllFair}
use Rattle.dk_bound.proofs.Begins.{thread_part, remaining-begins}
use Rattle.dk_bound.proofs.Demands.{kept, KernelReady, paid_by_threads, remaining-entry, remaining-moves, own-entry, own-moves}

pub kernel-is-ready : (c : Configuration) (past : List Entry) (choice : Choice) (e : Entry) → Fair c past choice → HasChosenLabel choice e.label
    → KernelReady c e past
kernel-is-ready c past choice e (kernel_works k some) label i mine =
    let is : kernel_level e.label ≡ Some k = chosen-says kernel_level (Choice.Kernel k) e.label (Some k) label (λ w. refl) in
    let h : eqb k i ≡ true = rw is at mine in
    let same : k ≡ i = grind (arith, nat_tests) in
    subst (λ r. 0 < kernel_rem c (length past) past r) same some
kernel-is-ready c past choice e (thread_works x has some) label i mine =
    let part : Phase = phase c.costs.switch (job c (length past) past x) in
    absurd (kernel-none i e (chosen-says kernel_level (Choice.Budget x.id part) e.label None label (λ w. (budget-labels x.id part w).2)) mine)
kernel-is-ready c past choice e (thread_borrows k x has wishes) label i mine =
    let n = length past in
    let from : Source = source c n past in
    let part : Phase = cond (is_entering c n past x) Phase.In Phase.Body in
    absurd (kernel-none i e (chosen-says kernel_level (Choice.Slack x.id from part) e.label None label (λ w. (slack-labels x.id from part w).2)) mine)
kernel-is-ready c past choice e nobody label i mine =
    absurd (kernel-none i e (chosen-says kernel_level Choice.Idle e.label None label (λ w. refl)) mine)

pub ready-of : (c : Configuration) (e : Entry) (past : List Entry) → AllFair c (e ∷ past) → Audited c (e ∷ past) → KernelReady c e past
ready-of c e past fair audited = kernel-is-ready c past (chosen c past) e fair.1 audited.1.choice

-- what the tick leaves of the room of each level with unfinished work: a tick for a level up to it, one less to wait for, or room to spare
abbrev pub TickRoom : Configuration → Entry → List Entry → Type 0
TickRoom c e past =
    (j : ℕ) → j < length c.levels → 0 < own_demand c (length past) past j
    → remaining_demand c (length past) past j + blocking c past j ≤ window_end c j (length past) - length past
    → remaining_demand c (length past) past j + blocking c (e ∷ past) j + 1
    ≤ window_end c j (length past) - length past + (paid_by_kernel j e + paid_by_threads c j e past)

-- all that the law on window demand needs to know of choices and of holders
abbrev pub Steady : Configuration → List Entry → Type 0
Steady c [] = BlocksAtMost c []
Steady c (e ∷ past) = Steady c past × Fair c past (chosen c past) × TickRoom c e past × BlocksAtMost c (e ∷ past)

pub steady-fair : (c : Configuration) (past : List Entry) → Steady c past → AllFair c past
steady-fair c [] steady = tt
steady-fair c (e ∷ past) steady = (steady-fair c past steady.0, steady.1)

pub steady-blocks : (c : Configuration) (past : List Entry) → Steady c past → BlocksAtMost c past
steady-blocks c [] steady = steady
steady-blocks c (e ∷ past) steady = steady.3

-- after the entry, before the move: one tick less is left and what is needed still fits
pub charged-fits : (c : Configuration) (j : ℕ) (e : Entry) (past : List Entry) → IsChecked c → DemandFits c past
    → Steady c (e ∷ past) → Audited c (e ∷ past) → j < length c.levels → 0 < own_demand c (length past) (e ∷ past) j
    → remaining_demand c (length past) (e ∷ past) j + blocking c (e ∷ past) j + 1 ≤ window_end c j (length past) - length past
charged-fits c j e past checked fits steady audited known some = grind (arith, nat_tests, steady-fair, own-entry, remaining-entry, ready-of)

demand-begins : (c : Configuration) (j : ℕ) (past : List Entry) → IsChecked c → IsAccepted c → Steady c past → Audited c past → j < length c.levels
    → length past % period c j ≡ 0 → remaining_demand c (length past) past j + blocking c past j ≤ window_end c j (length past) - length past
demand-begins c j past checked accepted steady audited known begins = grind (arith, nat_tests, remaining-begins, steady-fair, steady-blocks)

-- each level with unfinished work still fits its window
pub demand-fits : (c : Configuration) (past : List Entry) → IsChecked c → IsAccepted c → Steady c past → Audited c past → DemandFits c past
demand-fits c [] checked accepted steady audited j known some = demand-begins c j [] checked accepted steady audited known (zero-mod (period c j))
demand-fits c (e ∷ past) checked accepted steady audited j known some =
    let n = length past in
    let before = demand-fits c past checked accepted steady.0 audited.0 in
    elim (mod-next n (period c j) (checked.positive j known)) [
      | inl begins ↦ demand-begins c j (e ∷ past) checked accepted steady audited known begins.0
      | inr long ↦
          let own = own-moves c j n (e ∷ past) long in
          let charged = charged-fits c j e past checked before steady audited known (omega arith) in
          let moves = remaining-moves c j e past checked known audited long in
          let same : window_end c j (suc n) ≡ window_end c j n = ap (λ w. w + period c j) (window_start-within c j n long) in
          subst (λ w. remaining_demand c (suc n) (e ∷ past) j + blocking c (e ∷ past) j ≤ w - suc n) (sym same) (omega arith)
    ]

pub own-le-remaining : (c : Configuration) (n : ℕ) (past : List Entry) (j : ℕ) → own_demand c n past j ≤ remaining_demand c n past j
own-le-remaining c n past j =
    let kernel = sum_from-term 0 (suc j) (kernel_demand c n past (window_end c j n)) j (omega arith) (omega arith) in
    let all = sum_by-le (kept (λ i. eqb i j) (thread_rem c n past)) (thread_part c j n past) (threads c past)
    (λ x h. elim (cases_Bool (eqb x.level j)) [
      | inl here ↦ (let fast : leb x.level j ≡ true = grind (arith, nat_tests) in rw (here, fast) (omega arith))
      | inr other ↦ rw other (omega arith)
    ]) in
    omega (arith, kernel, all)

-- where a window of level j ends, after its last entry, nothing of the level's work is left
pub ends-done : (c : Configuration) (j : ℕ) (e : Entry) (past : List Entry) → IsChecked c → IsAccepted c
    → Steady c (e ∷ past) → Audited c (e ∷ past) → j < length c.levels
    → suc (length past % period c j) ≡ period c j → own_demand c (length past) (e ∷ past) j ≡ 0
ends-done c j e past checked accepted steady audited known last = grind (arith, nat_tests, charged-fits, demand-fits, own-le-remaining)
