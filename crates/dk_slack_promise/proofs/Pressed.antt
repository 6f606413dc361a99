-- A tick that goes to the work of a level up to j, or to slack: level j needs a tick less, waits a tick less, or lent one.
use Rattle.dk_slack_promise.proofs.Names.{ℕ, ◌≡◌, ◌+◌, ◌-◌, ◌<◌, ◌≤◌, inl, inr, true, false, cond, ltb, List, ◌∷◌, length, refl, sym, ap, ◌∙◌, subst, arith, Option, Some, cases_Bool, cases_lt, nat_tests, Configuration, IsChecked, Entry, Label, payer, is_of, is_budget_of, stops, Has, Thread, threads, after_entry, Hold, held_by, thread_blocking, blocking, own_demand, Audited, Follows, ThreadsFit, threads-fit, Turn, no-demand, Kind, paid, lent, kernel, idle, Rising, HoldersFit, paid_by_kernel, paid_by_threads, thread-counts, kernel-counts, payer-budget_of}
use Rattle.std.specs.Prelude.{map}
use Rattle.dk_trace.specs.declared.Event.{Event}
use Rattle.dk_trace.specs.Jobs.{thread_body_left}
use Rattle.dk_trace.specs.Holds.{aged, held_after, ends_hold, innermost_left, greatest_left}
use Rattle.dk_trace.proofs.Distinct.{same-row}
use Rattle.dk_trace.proofs.Events.{actor-follows}
use Rattle.dk_trace.proofs.Holds.{held-mine}
use Rattle.dk_trace.proofs.Whose.{budget-of as of-budget, of-payer}
use Rattle.dk_trace.proofs.Members.{sum_by-le, sum_by-less}
use Rattle.dk_bound.proofs.Nesting.{EventFits, Rising-tick, not-last, greatest-aged, greatest-filter, greatest-low, greatest-some, greatest-lock}
use Rattle.dk_bound.proofs.Locks.{AreMet, met, event-fits}
use Rattle.dk_bound.proofs.HoldersFit.{row-nested}
use Rattle.dk_bound.proofs.Blocking.{blocking-after, blocking-unpaid, chosen-counts, greatest-falls, other-step, slow-row, stopped-counts}
use Rattle.dk_slack_promise.specs.Lent.{is_lent}

-- the tick went to the work of a level up to j, or to slack
abbrev pub IsPressed : (c : Configuration) (past : List Entry) (label : Label) → ℕ → Kind c past label → Type 0
IsPressed c past label j (paid k x known passed has turn pays borrows level) = k ≤ j
IsPressed c past label j (lent k x known passed has none fitting pays borrows level) = Unit {0}
IsPressed c past label j (kernel k known passed left pays borrows level) = k ≤ j
IsPressed c past label j (idle passed pays borrows level) = ⊥

-- 1 where the tick is lent
abbrev pub lent_one : Entry → ℕ
lent_one e = cond (is_lent e) 1 0

-- where level j has work, each tick is such a one
pub works-press : (c : Configuration) (past : List Entry) (label : Label) (j : ℕ) → j < length c.levels → 0 < own_demand c (length past) past j
    → (w : Kind c past label) → IsPressed c past label j w
works-press c past label j known some (paid k x low passed has turn pays borrows level) =
    elim (cases_lt j k) [
      | inl slow ↦ let none = no-demand c past j (passed j slow) in absurd (omega arith)
      | inr fast ↦ omega arith
    ]
works-press c past label j known some (lent k x low passed has none fitting pays borrows level) = tt
works-press c past label j known some (kernel k low passed left pays borrows level) =
    elim (cases_lt j k) [
      | inl slow ↦ let none = no-demand c past j (passed j slow) in absurd (omega arith)
      | inr fast ↦ omega arith
    ]
works-press c past label j known some (idle passed pays borrows level) =
    let none = no-demand c past j (passed j known) in absurd (omega arith)

fast-row : (c : Configuration) (e : Entry) (past : List Entry) (j : ℕ) (x : Thread) → x.level ≤ j
    → thread_blocking c (e ∷ past) j (after_entry e (length past) x) ≤ thread_blocking c past j x
fast-row c e past j x quick = let a : ltb j x.level ≡ false = grind (arith, nat_tests) in rw a (omega arith)

-- whoever paid for the tick, at a level up to j, keeps level j waiting a tick less, if it is slower
own-less : (c : Configuration) (e : Entry) (past : List Entry) (j k : ℕ) (x : Thread) → IsChecked c → ThreadsFit c past → Follows c past e → HoldersFit c (length past) past
    → Has (threads c past) x → is_of x.id e ≡ true → Turn c past k x → k ≤ j → is_budget_of x.id e ≡ true → j < x.level
    → thread_blocking c (e ∷ past) j (after_entry e (length past) x) + 1 ≤ thread_blocking c past j x
own-less c e past j k x checked fit follows inv among mine turn after pays slow =
    let high = thread_body_left c (length past) past x in
    let nested = row-nested c (length past) past x fit inv among in
    let some = chosen-counts c past j k high x turn after slow nested in
    elim (cases_Bool (stops x.id e)) [
      | inl over ↦ stopped-counts c e past j x over slow some
      | inr runs ↦
          let must = (actor-follows c past e x.id follows mine).last in
          let are : AreMet c past e x e.event = λ given is. met c past e x given fit among follows mine is in
          let event : EventFits c (high - 1) (map aged (held_by x.id past)) e.event =
          subst (λ b. EventFits c (high - cond b 1 0) (map aged (held_by x.id past)) e.event) pays (event-fits c e past x e.event checked mine are) in
          let falls = greatest-falls c j high (held_by x.id past) e.event nested must event some in
          slow-row c e past j x slow (subst (λ hs. greatest_left c j hs + 1 ≤ greatest_left c j (held_by x.id past)) (sym (held-mine x.id e past runs mine)) falls)
    ]

-- all that is known of a tick that a thread paid for at a level up to j
pub record Pays (c : Configuration) (e : Entry) (past : List Entry) (j k : ℕ) (x : Thread) : Type 0 where
  pub checked : IsChecked c
  pub audited : Audited c (e ∷ past)
  pub holders : HoldersFit c (length past) past
  pub among : Has (threads c past) x
  pub turn : Turn c past k x
  pub reaches : k ≤ j
  pub pays : payer e.label ≡ Some x.id

row-less : (c : Configuration) (e : Entry) (past : List Entry) (j k : ℕ) (x y : Thread) → Pays c e past j k x → Has (threads c past) y
    → thread_blocking c (e ∷ past) j (after_entry e (length past) y) ≤ thread_blocking c past j y
row-less c e past j k x y know there =
    elim (cases_Bool (is_of y.id e)) [
      | inr other ↦ other-step c e past j y other
      | inl mine ↦
          elim (cases_lt j y.level) [
            | inr quick ↦ fast-row c e past j y (omega arith)
            | inl slow ↦
                let fit = threads-fit c past know.checked know.audited.0 in
                let same : y ≡ x = same-row (threads c past) y x fit.distinct there know.among (of-payer y.id x.id e know.pays mine) in
                let turn : Turn c past k y = subst (Turn c past k) (sym same) know.turn in
                let pays : payer e.label ≡ Some y.id = know.pays ∙ ap (λ z. Some z.id) (sym same) in
                let less = own-less c e past j k y know.checked fit know.audited.1 know.holders there mine turn know.reaches (payer-budget_of y.id e pays) slow in
                omega (arith, less)
          ]
    ]

pub pays-falls : (c : Configuration) (e : Entry) (past : List Entry) (j k : ℕ) (x : Thread) → Pays c e past j k x → blocking c (e ∷ past) j ≤ blocking c past j
pays-falls c e past j k x know =
    let after = blocking-after c e past j know.checked know.audited.0 know.audited.1 know.holders in
    let less = sum_by-le (λ y. thread_blocking c (e ∷ past) j (after_entry e (length past) y)) (thread_blocking c past j) (threads c past)
    (λ y there. row-less c e past j k x y know there) in
    omega (arith, after, less)

pub pays-less : (c : Configuration) (e : Entry) (past : List Entry) (j k : ℕ) (x : Thread) → Pays c e past j k x → j < x.level → blocking c (e ∷ past) j + 1 ≤ blocking c past j
pays-less c e past j k x know slow =
    let fit = threads-fit c past know.checked know.audited.0 in
    let after = blocking-after c e past j know.checked know.audited.0 know.audited.1 know.holders in
    let own : is_budget_of x.id e ≡ true = payer-budget_of x.id e know.pays in
    let mine : is_of x.id e ≡ true = of-budget x.id e own in
    let here = own-less c e past j k x know.checked fit know.audited.1 know.holders know.among mine know.turn know.reaches own slow in
    let less = sum_by-less (λ y. thread_blocking c (e ∷ past) j (after_entry e (length past) y)) (thread_blocking c past j) (threads c past) x
    (λ y there. row-less c e past j k x y know there) know.among here in
    omega (arith, after, less)

-- level j needs a tick less, waits a tick less, or lent one
pub presses : (c : Configuration) (j : ℕ) (e : Entry) (past : List Entry) → IsChecked c → Audited c (e ∷ past) → HoldersFit c (length past) past
    → (w : Kind c past e.label) → IsPressed c past e.label j w
    → blocking c (e ∷ past) j + 1 ≤ blocking c past j + (paid_by_kernel j e + paid_by_threads c j e past + lent_one e)
presses c j e past checked audited inv (paid k x low passed has turn pays borrows level) pressed =
    let know : Pays c e past j k x = record { checked = checked; audited = audited; holders = inv; among = has; turn = turn; reaches = pressed; pays = pays } in
    elim (cases_lt j x.level) [
      | inl slow ↦ let less = pays-less c e past j k x know slow in omega (arith, less)
      | inr fast ↦
          let one = thread-counts c e past j x has (omega arith) pays in
          let less = pays-falls c e past j k x know in
          omega (arith, one, less)
    ]
presses c j e past checked audited inv (lent k x low passed has none fitting pays borrows level) pressed =
    let one : is_lent e ≡ true = rw borrows refl in
    let less = blocking-unpaid c e past j checked audited.0 audited.1 inv pays in
    rw one (omega (arith, less))
presses c j e past checked audited inv (kernel k low passed left pays borrows level) pressed =
    let one = kernel-counts j k e pressed level in
    let less = blocking-unpaid c e past j checked audited.0 audited.1 inv pays in
    omega (arith, one, less)
presses c j e past checked audited inv (idle passed pays borrows level) pressed = absurd pressed
