-- By itself a process has nothing left once as many ticks of a window are over as its budget has, and rests to the window's end.
use Rattle.dk_impact.proofs.Names.{ℕ, zero, suc, ◌≡◌, ◌+◌, ◌-◌, ◌*◌, ◌%◌, ◌<◌, ◌≤◌, inl, inr, Bool, true, false, cond, not, ◌&&◌, ◌||◌, List, ◌∷◌, refl, sym, ap, ◌∙◌, subst, arith, cases_lt, add-mod-mod, mod-eq_of_lt, mod_self, Configuration, period, main_level, budget, Phase, Work, Choice, Label, Entry, payer, is_out, is_budget_of, is_out_of, does, is_wait, is_end, Job, phase, rem, label_of, spent, main_id, the_job, budget-labels, spent-payer, InOrder, is_out_phase, charge-order, fresh-order, same-self, World, Turn, quiet_entry, step_of, thread_turn, tick_in, work_done, alone, choice_alone, step_alone, entries_of, Own, own, booked, after, fresh, Plain, booked-after, after-other, own-within, own-begins, alone-works, alone-rests, turn-label, alone-long, tail, entry-by, on, on-is, nat_tests}

-- where in its window the j-th tick after the start of a window is
pub place : (P m j : ℕ) → m % P ≡ 0 → j < P → on j m % P ≡ j
place P m j begins less =
    ap (λ k. k % P) (on-is j m) ∙ sym (add-mod-mod j m P) ∙ ap (λ k. (j + k) % P) begins ∙ ap (λ k. k % P) (omega arith) ∙ mod-eq_of_lt less

pub moves-on : (P m j : ℕ) → m % P ≡ 0 → suc j < P → suc (on j m) % P ≡ suc (on j m % P)
moves-on P m j begins less = place P m (suc j) begins less ∙ ap suc (sym (place P m j begins (omega arith)))

pub next-begins : (P m : ℕ) → m % P ≡ 0 → on P m % P ≡ 0
next-begins P m begins =
    ap (λ k. k % P) (on-is P m) ∙ sym (add-mod-mod P m P) ∙ ap (λ k. (P + k) % P) begins ∙ ap (λ k. k % P) (omega arith) ∙ mod_self P

-- where the k-th window begins
abbrev pub start_of : ℕ → ℕ → ℕ
start_of P zero = 0
start_of P (suc k) = on P (start_of P k)

pub start-is : (P k : ℕ) → start_of P k ≡ k * P
start-is P zero = omega arith
start-is P (suc k) = on-is P (start_of P k) ∙ ap (λ n. P + n) (start-is P k) ∙ more
  where
    more : P + k * P ≡ suc k * P
    more = grind arith

pub start-begins : (P k : ℕ) → 0 < P → start_of P k % P ≡ 0
start-begins P zero positive = mod-eq_of_lt positive
start-begins P (suc k) positive = next-begins P (start_of P k) (start-begins P k positive)

-- the label of a tick that the main has
main-label : (c : Configuration) (p : ℕ) (w : World) (next : Phase) (e : Entry) → (step_of c w (Choice.Budget (main_id p) next)).past ≡ e ∷ w.past
    → (work : Work) × (e.label ≡ label_of (Choice.Budget (main_id p) next) work)
main-label c p w Phase.In e is = let same : quiet_entry (Label.In (main_id p)) ≡ e = cc in (Work.In, ap (λ (i : Entry). i.label) (sym same))
main-label c p w Phase.Out e is = let same : quiet_entry (Label.Out (main_id p)) ≡ e = cc in (Work.In, ap (λ (i : Entry). i.label) (sym same))
main-label c p w Phase.Body e is =
    let choice = Choice.Budget (main_id p) Phase.Body in
    let tick = tick_in c (w.images p) 0 in
    let turn : Turn = thread_turn c w.past choice (main_id p) (w.images p) tick in
    let same : turn.entry ≡ e = cc in
    (work_done tick.outcome, ap (λ (i : Entry). i.label) (sym same) ∙ turn-label c w.past choice (main_id p) (w.images p) tick)

out-labelled : (x : ℕ) (next : Phase) (work : Work) → cond (is_out (label_of (Choice.Budget (main_id x) next) work)) 1 0 ≡ is_out_phase next
out-labelled x next work = grind (arith, nat_tests)

stays-shut : (a b k : Bool) → k ≡ true → (a || (b || k)) ≡ true
stays-shut a b k shut = grind (arith, nat_tests)

abbrev Ordered : ℕ → Job → Type 0
Ordered W j = InOrder W j.share j.used j.out_ticks j.closed

-- what is left falls with each tick
record Falls (W : ℕ) (j j' : Job) : Type 0 where
  order : Ordered W j'
  less : rem W j' ≤ rem W j - 1

-- it does with one that the main has
charged : (W s u o : ℕ) (shut waits ends : Bool) (p : ℕ) (e : Entry) (next : Phase) (work : Work) → InOrder W s u o shut → 0 < rem W (the_job s u o shut)
    → next ≡ phase W (the_job s u o shut) → e.label ≡ label_of (Choice.Budget (main_id p) next) work
    → Falls W (the_job s u o shut) (the_job s (spent (main_id p) e + u) (cond (is_out_of (main_id p) e) 1 0 + o) (waits || (ends || shut)))
charged W s u o shut waits ends p e next work order some is label =
    let pays = ap payer label ∙ (budget-labels (main_id p) next work).0 in
    let one : spent (main_id p) e ≡ 1 = spent-payer (main_id p) e pays in
    let mine : is_budget_of (main_id p) e ≡ true = rw pays (same-self (main_id p)) in
    let out : cond (is_out_of (main_id p) e) 1 0 ≡ is_out_phase next = grind (arith, nat_tests, out-labelled) in
    let after = charge-order W s u o shut (waits || (ends || shut)) (spent (main_id p) e) (cond (is_out_of (main_id p) e) 1 0) order
    (stays-shut waits ends shut) (inr (one, some, out ∙ ap is_out_phase is)) in
    let lower = after.1 in
    record { order = after.0; less = omega (arith, lower, one) }

-- what is left of a budget after so many ticks
record IsLeft (W share : ℕ) (j : Job) (ticks : ℕ) : Type 0 where
  order : Ordered W j
  few : rem W j + ticks ≤ share

first-left : (W share : ℕ) (ended : Bool) → 2 * W + 1 ≤ share → IsLeft W share (the_job (cond ended 0 share) 0 0 false) 0
first-left W share ended room = grind (arith, nat_tests, fresh-order)

module _ (c : Configuration) (p : ℕ) (program : List ℕ) (positive : 0 < period c (main_level c p)) where
  abbrev v : ℕ → World
  v n = alone c p program n

  abbrev P : ℕ
  P = period c (main_level c p)

  abbrev W : ℕ
  W = c.costs.switch

  falls : (w : World) (e : Entry) → (step_alone c p w).past ≡ e ∷ w.past → Ordered W (own c p w.past).job
      → Falls W (own c p w.past).job (after p e (own c p w.past)).job
  falls w e is order =
      let o = own c p w.past in
      let j = o.job in
      elim (cases_lt 0 (rem W j)) [
        | inl some ↦
            let works = subst (λ choice. (step_of c w choice).past ≡ e ∷ w.past) (alone-works c p w.past some) is in
            let label = main-label c p w (phase W j) e works in
            charged W j.share j.used j.out_ticks j.closed (does is_wait (main_id p) e) (does is_end (main_id p) e && not o.ended) p e (phase W j) label.0 order some refl label.1
        | inr none ↦
            let over : rem W j ≡ 0 = omega arith in
            let rests = subst (λ choice. (step_of c w choice).past ≡ e ∷ w.past) (alone-rests c p w.past over) is in
            let same : quiet_entry Label.Idle ≡ e = cc in
            subst (λ (i : Entry). Falls W j (after p i o).job) same
            (subst (λ (z : Own). Falls W j z.job) (sym (after-other c p positive (quiet_entry Label.Idle) o refl)) (record { order = order; less = omega arith }))
      ]

  module _ (plains : (n : ℕ) → Plain (entries_of p (alone c p program n).past)) (room : 2 * c.costs.switch + 1 ≤ budget c p)
      (fits : budget c p ≤ period c (main_level c p)) where
    -- what tick n leaves, before and after the window that it may end gives way to the next
    pub leaves : (n : ℕ) (e : Entry) → (v (suc n)).past ≡ e ∷ (v n).past → booked c p e (v n).past ≡ after p e (own c p (v n).past)
    leaves n e is = booked-after c p positive e (v n).past (subst (λ es. Plain (entries_of p es)) is (plains (suc n)))

    pub goes-on : (n : ℕ) (e : Entry) → (v (suc n)).past ≡ e ∷ (v n).past → suc n % P ≡ suc (n % P) → own c p (v (suc n)).past ≡ booked c p e (v n).past
    goes-on n e is within = grind (arith, nat_tests, own, own-within, alone-long)

    begins-anew : (n : ℕ) (e : Entry) → (v (suc n)).past ≡ e ∷ (v n).past → suc n % P ≡ 0 → own c p (v (suc n)).past ≡ fresh c p positive (booked c p e (v n).past)
    begins-anew n e is begins =
        ap (own c p) is
        ∙ own-begins c p positive (e ∷ (v n).past) (booked c p e (v n).past) (subst (λ es. Plain (entries_of p es)) is (plains (suc n)))
        (ap (λ k. suc k % P) (alone-long c p program n) ∙ begins) refl refl refl

    -- j ticks after a window's start at most so many of the budget are left
    left-after : (m j : ℕ) → m % P ≡ 0 → j < budget c p → IsLeft W (budget c p) (own c p (v (on j m)).past).job j
    left-after m zero begins some =
        let o = own c p (v m).past in
        let anew : o ≡ fresh c p positive o = own-begins c p positive (v m).past o (plains m) (ap (λ k. k % P) (alone-long c p program m) ∙ begins) refl refl refl in
        subst (λ (z : Own). IsLeft W (budget c p) z.job 0) (sym anew) (first-left W (budget c p) o.ended room)
    left-after m (suc j) begins some =
        let n = on j m in
        let before = left-after m j begins (omega arith) in
        let grown = entry-by c (v n) (choice_alone c p (v n).past) in
        let fall = falls (v n) grown.0 grown.1 before.order in
        let few = before.few in
        let less = fall.less in
        subst (λ (z : Own). IsLeft W (budget c p) z.job (suc j))
        (sym (goes-on n grown.0 grown.1 (moves-on P m j begins (omega (arith, some, fits))) ∙ leaves n grown.0 grown.1))
        (record { order = fall.order; few = omega (arith, few, less, some) })

    -- so nothing is left after its last
    pub over-by : (m last : ℕ) (e : Entry) → m % P ≡ 0 → suc last ≡ budget c p → (v (suc (on last m))).past ≡ e ∷ (v (on last m)).past
        → rem W (booked c p e (v (on last m)).past).job ≡ 0
    over-by m last e begins whole is =
        let n = on last m in
        let before = left-after m last begins (omega arith) in
        let fall = falls (v n) e is before.order in
        let few = before.few in
        let less = fall.less in
        ap (λ (o : Own). rem W o.job) (leaves n e is) ∙ omega (arith, few, less, whole)

    -- and the window after a tick that leaves nothing is the one of what the tick left
    pub finish : (m last : ℕ) (e : Entry) → m % P ≡ 0 → suc last ≤ P → (v (suc (on last m))).past ≡ e ∷ (v (on last m)).past
        → rem W (booked c p e (v (on last m)).past).job ≡ 0
        → (own c p (v (on P m)).past ≡ fresh c p positive (booked c p e (v (on last m)).past)) × ((v (on P m)).images p ≡ (v (suc (on last m))).images p)
    finish m last e begins within is none =
        let n = on last m in
        elim (cases_lt (suc last) P) [
          | inl more ↦
              let there = goes-on n e is (moves-on P m last begins more) in
              let at : suc n % P ≡ suc last = place P m (suc last) begins more in
              let k = P - suc (suc last) in
              let near = on-is last m in
              let far = on-is P m in
              let rest = tail c p program positive k (suc n) (on P m) (omega (arith, at, more)) (omega (arith, near, far, more)) (plains (suc n))
              (ap (λ (o : Own). rem W o.job) there ∙ none) in
              (rest.0 ∙ ap (fresh c p positive) there, rest.1)
          | inr full ↦
              let ends : P ≡ suc last = omega (arith, full, within) in
              let same : on P m ≡ suc n = ap (λ k. on k m) ends in
              let start : suc n % P ≡ 0 = ap (λ k. k % P) (sym same) ∙ next-begins P m begins in
              (ap (λ k. own c p (v k).past) same ∙ begins-anew n e is start, ap (λ k. (v k).images p) same)
        ]
