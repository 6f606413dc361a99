-- The holders fit and what is left fits its window: one induction over the past.
use Rattle.dk_bound.proofs.Names.{ℕ, zero, suc, ◌≡◌, ◌+◌, ◌-◌, ◌<◌, ◌≤◌, inl, inr, Bool, true, false, eqb, leb, List, [], ◌∷◌, length, subst, arith, sum_by, list_all, cases_Bool, cases_lt, cases_eq, nat_tests, Configuration, IsChecked, IsAccepted, numbers, period, window_end, Choice, Entry, payer, kernel_level, is_budget_of, Thread, threads, family, thread_rem, blocking, own_demand, remaining_demand, fits, fits_at, chosen, Audited, mod-next, spent, sum_from-term, kernel_paid, paid_by_kernel, spent-payer, kernel_paid-level, sum_by-term, has-flat, Fair, kernel_works, thread_works, thread_borrows, nobody, BlocksAtMost, Has, Turn, Reason, kernel_first, thread_first, slack_first, nothing, now_rem, no-demand, chosen-reason, Kind, paid, lent, kernel, idle, kind, payer-budget_of, ThreadsFit, threads-fit}
use Rattle.std.proofs.Common.{Some}
use Rattle.dk_bound.proofs.Demands.{kept, up_to, process_paid, paid_by_threads}
use Rattle.dk_bound.proofs.Fits.{TickRoom, Steady, ends-done}
use Rattle.dk_bound.proofs.Holding.{HoldersFit}
use Rattle.dk_bound.proofs.HoldersFit.{holder-rem, WindowEnds, holders-entry, holders-move, holders-start}
use Rattle.dk_bound.proofs.Certified.{blocking-certified}
use Rattle.dk_bound.proofs.Blocking.{blocking-falls, blocking-pays, blocking-unpaid}

-- who was chosen has something left of its share
turn-rem : (c : Configuration) (past : List Entry) (k : ℕ) (x : Thread) → ThreadsFit c past → HoldersFit c (length past) past → Has (threads c past) x → Turn c past k x
    → 0 < now_rem c past x
turn-rem c past k x fit inv has is = grind (arith, nat_tests, holder-rem)

fair_of : (c : Configuration) (past : List Entry) (choice : Choice) → ThreadsFit c past → HoldersFit c (length past) past → Reason c past choice → Fair c past choice
fair_of c past _ fit inv (kernel_first k known passed left) = kernel_works k left
fair_of c past _ fit inv (thread_first k x known passed has turn) = thread_works x has (turn-rem c past k x fit inv has turn)
fair_of c past _ fit inv (slack_first k x known passed has wishes fitting) = thread_borrows k x has wishes
fair_of c past _ fit inv (nothing passed) = nobody

-- whoever is chosen has something left, or wishes for slack
pub fair-choice : (c : Configuration) (past : List Entry) → IsChecked c → Audited c past → HoldersFit c (length past) past → Fair c past (chosen c past)
fair-choice c past checked audited inv = fair_of c past (chosen c past) (threads-fit c past checked audited) inv (chosen-reason c past)

-- a level with unfinished work has a tick to give where slack fits
fits-room : (c : Configuration) (past : List Entry) (j : ℕ) → fits c (length past) past ≡ true → j < length c.levels → 0 < own_demand c (length past) past j
    → remaining_demand c (length past) past j + blocking c past j + 1 ≤ window_end c j (length past) - length past
fits-room c past j fitting known some =
    let at : fits_at c (length past) past j ≡ true = all-at (fits_at c (length past) past) 0 (length c.levels) fitting j (omega arith) (omega arith) in
    let busy : eqb (own_demand c (length past) past j) 0 ≡ false = grind (arith, nat_tests) in
    let test : leb (remaining_demand c (length past) past j + blocking c past j + 1) (window_end c j (length past) - length past) ≡ true = rw busy at at in
    grind (arith, nat_tests)
  where
    all-at : (test : ℕ → Bool) (low n : ℕ) → list_all test (numbers low n) ≡ true → (k : ℕ) → low ≤ k → k < low + n → test k ≡ true
    all-at test low zero h k a b = absurd (omega arith)
    all-at test low (suc n) h k a b =
        elim (cases_Bool (test low)) [
          | inl passes ↦
              let rest : list_all test (numbers (suc low) n) ≡ true = rw passes at h in
              elim (cases_eq low k) [
                | inl same ↦ subst (λ i. test i ≡ true) same passes
                | inr other ↦ all-at test (suc low) n rest k (omega arith) (omega arith)
              ]
          | inr fails ↦ let wrong : false ≡ true = rw fails at h in absurd (cc)
        ]

-- a tick of a thread of a level up to j counts for level j
pub thread-counts : (c : Configuration) (e : Entry) (past : List Entry) (j : ℕ) (x : Thread) → Has (threads c past) x → x.level ≤ j → payer e.label ≡ Some x.id → 1 ≤ paid_by_threads c j e past
thread-counts c e past j x has le is =
    let one : spent x.id e ≡ 1 = spent-payer x.id e is in
    let fast : leb x.level j ≡ true = grind (arith, nat_tests) in
    let r = has-flat (λ p. family c p past) 0 (length c.processes) x has in
    let term = sum_by-term (kept (up_to j) (λ y. spent y.id e)) (family c r.0 past) x r.2 in
    let term' : spent x.id e ≤ process_paid c r.0 j e past = rw fast at term in
    let whole = sum_from-term 0 (length c.processes) (λ p. process_paid c p j e past) r.0 (omega arith) r.1 in
    omega (arith, term', whole, one)

pub kernel-counts : (j k : ℕ) (e : Entry) → k ≤ j → kernel_level e.label ≡ Some k → 1 ≤ paid_by_kernel j e
kernel-counts j k e le is =
    let one : kernel_paid k e ≡ 1 = kernel_paid-level k e is in
    omega (arith, sum_from-term 0 (suc j) (λ i. kernel_paid i e) k (omega arith) (omega arith), one)

-- What the tick was for: level j needs a tick less, waits a tick less, or had room.
tick-room : (c : Configuration) (j : ℕ) (e : Entry) (past : List Entry) → IsChecked c → Audited c (e ∷ past) → HoldersFit c (length past) past
    → j < length c.levels → 0 < own_demand c (length past) past j
    → remaining_demand c (length past) past j + blocking c past j ≤ window_end c j (length past) - length past
    → Kind c past e.label
    → remaining_demand c (length past) past j + blocking c (e ∷ past) j + 1 ≤ window_end c j (length past) - length past + (paid_by_kernel j e + paid_by_threads c j e past)
tick-room c j e past checked audited inv known some fitting (paid k x low passed has turn pays borrows level) =
    elim (cases_lt j x.level) [
      | inl slow ↦
          let own : is_budget_of x.id e ≡ true = payer-budget_of x.id e pays in
          let less = blocking-pays c e past j x checked audited.0 audited.1 inv some has slow own in
          omega arith
      | inr fast ↦
          let one = thread-counts c e past j x has fast pays in
          let less = blocking-falls c e past j checked audited.0 audited.1 inv some in
          omega arith
    ]
tick-room c j e past checked audited inv known some fitting (lent k x low passed has none room pays borrows level) =
    let left = fits-room c past j room known some in
    let less = blocking-unpaid c e past j checked audited.0 audited.1 inv pays in
    omega arith
tick-room c j e past checked audited inv known some fitting (kernel k low passed left pays borrows level) =
    elim (cases_lt j k) [
      | inl slow ↦ let none = no-demand c past j (passed j slow) in absurd (omega arith)
      | inr fast ↦
          let one = kernel-counts j k e fast level in
          let less = blocking-falls c e past j checked audited.0 audited.1 inv some in
          omega arith
    ]
tick-room c j e past checked audited inv known some fitting (idle passed pays borrows level) =
    let none = no-demand c past j (passed j known) in absurd (omega arith)

-- each entry leaves room for what the tick was not for
pub room-for-all : (c : Configuration) (e : Entry) (past : List Entry) → IsChecked c → Audited c (e ∷ past) → HoldersFit c (length past) past → TickRoom c e past
room-for-all c e past checked audited inv j known some fitting = tick-room c j e past checked audited inv known some fitting (kind c past e audited.1)

pub window-ends : (c : Configuration) (e : Entry) (past : List Entry) → IsChecked c → IsAccepted c → Audited c (e ∷ past) → Steady c (e ∷ past) → WindowEnds c e past
window-ends c e past checked accepted audited steady x has begins =
    let n = length past in
    let row = (threads-fit c (e ∷ past) checked audited).rows x has in
    let known : x.level < length c.levels = (let a = row.high in let b = checked.reaches x.id.process row.known in omega arith) in
    let positive = checked.positive x.level known in
    elim (mod-next n (period c x.level) positive) [
      | inr within ↦ absurd (omega arith)
      | inl end ↦
          let done = ends-done c x.level e past checked accepted steady audited known end.1 in
          let term = sum_by-term (kept (λ i. eqb i x.level) (thread_rem c n (e ∷ past))) (threads c (e ∷ past)) x has in
          let at : eqb x.level x.level ≡ true = grind (arith, nat_tests) in
          let term' : thread_rem c n (e ∷ past) x ≤ sum_by (kept (λ i. eqb i x.level) (thread_rem c n (e ∷ past))) (threads c (e ∷ past)) = rw at at term in
          omega (arith, done, term')
    ]

pub blocks-at-most : (c : Configuration) (now : ℕ) (past : List Entry) → IsChecked c → Audited c past → HoldersFit c now past → BlocksAtMost c past
blocks-at-most c now past checked audited inv j known = blocking-certified c now past j (threads-fit c past checked audited) inv

-- What the induction over the past carries: the holders fit at the present tick, and all entries were steady.
pub record Moment (c : Configuration) (past : List Entry) : Type 0 where
  pub holders : HoldersFit c (length past) past
  pub steady : Steady c past

-- The same right after an entry, the windows being read at its tick.
pub record Charged (c : Configuration) (e : Entry) (past : List Entry) : Type 0 where
  pub holders : HoldersFit c (length past) (e ∷ past)
  pub steady : Steady c (e ∷ past)

pub moment-entry : (c : Configuration) (e : Entry) (past : List Entry) → IsChecked c → Audited c (e ∷ past) → Moment c past → Charged c e past
moment-entry c e past checked audited m =
    let holders = holders-entry c e past checked audited.0 audited.1 m.holders in
    record {
      holders = holders;
      steady =
          (m.steady, fair-choice c past checked audited.0 m.holders, room-for-all c e past checked audited m.holders, blocks-at-most c (length past) (e ∷ past) checked audited holders);
    }

pub moment-move : (c : Configuration) (e : Entry) (past : List Entry) → IsChecked c → IsAccepted c → Audited c (e ∷ past) → Charged c e past → Moment c (e ∷ past)
moment-move c e past checked accepted audited m =
    record {
      holders = holders-move c e past checked audited (window-ends c e past checked accepted audited m.steady) m.holders;
      steady = m.steady;
    }

-- Along every past that follows the rules.
pub moment : (c : Configuration) (past : List Entry) → IsChecked c → IsAccepted c → Audited c past → Moment c past
moment c [] checked accepted audited = record { holders = holders-start c; steady = blocks-at-most c 0 [] checked audited (holders-start c) }
moment c (e ∷ past) checked accepted audited =
    moment-move c e past checked accepted audited (moment-entry c e past checked audited (moment c past checked accepted audited.0))

pub holders-fit : (c : Configuration) (past : List Entry) → IsChecked c → IsAccepted c → Audited c past → HoldersFit c (length past) past
holders-fit c past checked accepted audited = (moment c past checked accepted audited).holders

pub steady : (c : Configuration) (past : List Entry) → IsChecked c → IsAccepted c → Audited c past → Steady c past
steady c past checked accepted audited = (moment c past checked accepted audited).steady
