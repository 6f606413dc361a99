-- A window in which the main waited or was stopped had room for each of its ticks.
use Rattle.dk_impact.proofs.Names.{ℕ, zero, suc, ◌≡◌, ◌+◌, ◌-◌, ◌*◌, ◌%◌, ◌<◌, ◌≤◌, ◌⊎◌, inl, inr, Bool, true, false, cond, not, ◌&&◌, ◌||◌, ltb, List, [], ◌∷◌, None, refl, sym, ap, ◌∙◌, subst, arith, cases_Bool, cases_lt, take, count_by, count_by-cons, list_any, Configuration, period, main_level, budget, Phase, Choice, Label, Event, Entry, does, is_budget_of, is_wait, is_end, stops, Job, rem, phase, main_id, quiet_entry, World, step_of, alone, choice_alone, step_alone, entries_of, is_of_process, Own, own, booked, after, fresh, Plain, own-begins, alone-works, alone-rests, alone-long, entry-by, on, overruns, any-own, own-overruns, has_enough, is_for_want, nat_tests}
use Rattle.dk_impact.proofs.Budgets.{HasRoom, Enough}
use Rattle.dk_impact.proofs.Spent.{moves-on, leaves, goes-on}

-- The entries of a window so far count the main's ticks of it, and as long as the window isn't closed they tell of no wait and no stop.
record Open (p : ℕ) (o : Own) (es : List Entry) : Type 0 where
  used : o.job.used ≡ count_by (is_budget_of (main_id p)) es
  shut : o.job.closed ≡ false → (o.ended ≡ false) × (list_any (does is_wait (main_id p)) es ≡ false) × (list_any (stops (main_id p)) es ≡ false)

parts : (w d n k : Bool) → (w || ((d && not n) || k)) ≡ false → (w ≡ false) × (k ≡ false) × ((d && not n) ≡ false)
parts true d n k is = cc
parts false d n true is = grind (arith, nat_tests)
parts false d n false is = grind (arith, nat_tests)

not-ended : (d n : Bool) → n ≡ false → (d && not n) ≡ false → d ≡ false
not-ended d n none is = grind (arith, nat_tests)

stops-is : (p : ℕ) (e : Entry) → stops (main_id p) e ≡ does is_end (main_id p) e
stops-is p e = grind (arith, nat_tests)

none-of : (a b : Bool) → a ≡ false → b ≡ false → (a || b) ≡ false
none-of a b one other = grind (arith, nat_tests)

open-next : (p : ℕ) (e : Entry) (o : Own) (es : List Entry) → Open p o es → Open p (after p e o) (e ∷ es)
open-next p e o es before =
    record {
      used = ap (λ k. cond (is_budget_of (main_id p) e) 1 0 + k) before.used ∙ sym (count_by-cons (is_budget_of (main_id p)) e es);
      shut = λ is.
          let some = parts (does is_wait (main_id p) e) (does is_end (main_id p) e) o.ended o.job.closed is in
          let past = before.shut some.1 in
          let goes : does is_end (main_id p) e ≡ false = not-ended (does is_end (main_id p) e) o.ended past.0 some.2 in (
            none-of o.ended (does is_end (main_id p) e) past.0 goes,
            none-of (does is_wait (main_id p) e) (list_any (does is_wait (main_id p)) es) some.0 past.1,
            none-of (stops (main_id p) e) (list_any (stops (main_id p)) es) (stops-is p e ∙ goes) past.2,
          );
    }

-- the job has no more than its last part left, and isn't closed
record Stuck (W : ℕ) (j : Job) : Type 0 where
  shut : j.closed ≡ false
  few : j.share - W ≤ j.used
  inside : W ≤ j.used
  some : 0 < j.used

stuck-by : (W p : ℕ) (e : Entry) (o : Own) → e.event ≡ None → Stuck W o.job → Stuck W (after p e o).job
stuck-by W p e o quiet stuck =
    let few = stuck.few in
    let inside = stuck.inside in
    let some = stuck.some in
    record { shut = shut; few = omega arith; inside = omega arith; some = omega arith }
  where
    shut : (after p e o).job.closed ≡ false
    shut = nothing (does is_wait (main_id p) e) (does is_end (main_id p) e) o.ended o.job.closed (says is_wait) (says is_end) stuck.shut
      where
        says : (test : Event → Bool) → does test (main_id p) e ≡ false
        says test = grind (arith, nat_tests)

        nothing : (w d n k : Bool) → w ≡ false → d ≡ false → k ≡ false → (w || ((d && not n) || k)) ≡ false
        nothing w d n k a b c = grind (arith, nat_tests)

room-or-stuck : (W : ℕ) (j : Job) → (j.share ≡ 0) ⊎ (2 * W + 1 ≤ j.share) → HasRoom W j ⊎ Stuck W j
room-or-stuck W j (inl none) = inl (inr (inl none))
room-or-stuck W j (inr whole) =
    elim (cases_Bool j.closed) [
      | inl shut ↦ inl (inl shut)
      | inr goes ↦ elim (cases_lt j.used (j.share - W)) [
        | inl less ↦ inl (inr (inr less))
        | inr few ↦ inr (record { shut = goes; few = few; inside = omega (arith, whole, few); some = omega (arith, whole, few) })
      ]
    ]

out-phase : (W : ℕ) (j : Job) → Stuck W j → phase W j ≡ Phase.Out
out-phase W j stuck =
    let few = stuck.few in
    let inside = stuck.inside in
    by j.closed (ltb j.used W) (ltb j.used (j.share - W)) stuck.shut (past W inside) (past (j.share - W) few)
  where
    past : (k : ℕ) → k ≤ j.used → ltb j.used k ≡ false
    past k over = grind (arith, nat_tests)

    by : (k a b : Bool) → k ≡ false → a ≡ false → b ≡ false → cond k Phase.Out (cond a Phase.In (cond b Phase.Body Phase.Out)) ≡ Phase.Out
    by k a b one two three = grind (arith, nat_tests)

no-event : (c : Configuration) (p : ℕ) (w : World) (e : Entry) → (step_of c w (Choice.Budget (main_id p) Phase.Out)).past ≡ e ∷ w.past → e.event ≡ None
no-event c p w e is = let same : quiet_entry (Label.Out (main_id p)) ≡ e = cc in ap (λ (i : Entry). i.event) (sym same)

idle-event : (c : Configuration) (w : World) (e : Entry) → (step_of c w Choice.Idle).past ≡ e ∷ w.past → e.event ≡ None
idle-event c w e is = let same : quiet_entry Label.Idle ≡ e = cc in ap (λ (i : Entry). i.event) (sym same)

-- so its next tick has no event
quiet-next : (c : Configuration) (p : ℕ) (w : World) (e : Entry) → (step_alone c p w).past ≡ e ∷ w.past → Stuck c.costs.switch (own c p w.past).job → e.event ≡ None
quiet-next c p w e is stuck =
    let j = (own c p w.past).job in
    elim (cases_lt 0 (rem c.costs.switch j)) [
      | inl some ↦
          let works : choice_alone c p w.past ≡ Choice.Budget (main_id p) Phase.Out = alone-works c p w.past some ∙ ap (Choice.Budget (main_id p)) (out-phase c.costs.switch j stuck) in
          no-event c p w e (subst (λ choice. (step_of c w choice).past ≡ e ∷ w.past) works is)
      | inr none ↦ idle-event c w e (subst (λ choice. (step_of c w choice).past ≡ e ∷ w.past) (alone-rests c p w.past (omega arith)) is)
    ]

-- a window of which no wait and no stop are told is one that the main overran
overran : (p W : ℕ) (o : Own) (es : List Entry) → Open p o es → Stuck W o.job → overruns p es ≡ true
overran p W o es opens stuck =
    let told = opens.shut stuck.shut in
    let some = stuck.some in
    let used = opens.used in
    by (ltb 0 (count_by (is_budget_of (main_id p)) es)) (list_any (does is_wait (main_id p)) es) (list_any (stops (main_id p)) es)
    (counted (count_by (is_budget_of (main_id p)) es) (omega (arith, some, used))) told.1 told.2
  where
    counted : (n : ℕ) → 0 < n → ltb 0 n ≡ true
    counted n more = grind (arith, nat_tests)

    by : (a w s : Bool) → a ≡ true → w ≡ false → s ≡ false → (a && not (w || s)) ≡ true
    by a w s one two three = grind (arith, nat_tests)

own-want : (p : ℕ) (e : Entry) → is_of_process p e ≡ false → does is_for_want (main_id p) e ≡ false
own-want p e other = grind (arith, nat_tests)

both-not : (a b : Bool) → (not a && not b) ≡ true → (a ≡ false) × (b ≡ false)
both-not a b is = grind (arith, nat_tests)

same-head : (e e' : Entry) (past es : List Entry) → past ≡ e ∷ es → past ≡ e' ∷ es → e ≡ e'
same-head e e' past es one other = let both : (e ∷ es) ≡ e' ∷ es = sym one ∙ other in cc

-- what holds of no entry of a list holds of none of its rest
first-not : (a b : Bool) → (a || b) ≡ false → (a ≡ false) × (b ≡ false)
first-not a b is = grind (arith, nat_tests)

module _ (c : Configuration) (p : ℕ) (program : List ℕ) (positive : 0 < period c (main_level c p)) (plains : (n : ℕ) → Plain (entries_of p (alone c p program n).past))
    (room : 2 * c.costs.switch + 1 ≤ budget c p) (fits : budget c p ≤ period c (main_level c p)) (m : ℕ) (begins : m % period c (main_level c p) ≡ 0)
    (enough : has_enough p (entries_of p (take (period c (main_level c p)) (alone c p program (on (period c (main_level c p)) m)).past)) ≡ true) where
  abbrev v : ℕ → World
  v n = alone c p program n

  abbrev P : ℕ
  P = period c (main_level c p)

  abbrev W : ℕ
  W = c.costs.switch

  abbrev entry : ℕ → Entry
  entry j = (entry-by c (v (on j m)) (choice_alone c p (v (on j m)).past)).0

  grown : (j : ℕ) → (v (suc (on j m))).past ≡ entry j ∷ (v (on j m)).past
  grown j = (entry-by c (v (on j m)) (choice_alone c p (v (on j m)).past)).1

  -- the entries of the window's first j ticks
  abbrev since : ℕ → List Entry
  since j = take j (v (on j m)).past

  since-next : (j : ℕ) → since (suc j) ≡ entry j ∷ since j
  since-next j = ap (take (suc j)) (grown j)

  abbrev at : ℕ → Own
  at j = own c p (v (on j m)).past

  at-next : (j : ℕ) → suc j < P → at (suc j) ≡ after p (entry j) (at j)
  at-next j within =
      goes-on c p program positive plains room fits (on j m) (entry j) (grown j) (moves-on P m j begins within) ∙ leaves c p program positive plains room fits (on j m) (entry j) (grown j)

  start : at 0 ≡ fresh c p positive (at 0)
  start = own-begins c p positive (v m).past (at 0) (plains m) (ap (λ k. k % P) (alone-long c p program m) ∙ begins) refl refl refl

  share-first : ((at 0).job.share ≡ 0) ⊎ (2 * W + 1 ≤ (at 0).job.share)
  share-first = subst (λ (o : Own). (o.job.share ≡ 0) ⊎ (2 * W + 1 ≤ o.job.share)) (sym start) (by (at 0).ended)
    where
      by : (b : Bool) → (cond b 0 (budget c p) ≡ 0) ⊎ (2 * W + 1 ≤ cond b 0 (budget c p))
      by true = inl refl
      by false = inr room

  share-at : (j : ℕ) → j < P → ((at j).job.share ≡ 0) ⊎ (2 * W + 1 ≤ (at j).job.share)
  share-at zero within = share-first
  share-at (suc j) within = subst (λ (o : Own). (o.job.share ≡ 0) ⊎ (2 * W + 1 ≤ o.job.share)) (sym (at-next j within)) (share-at j (omega arith))

  enough-is : (overruns p (since P) ≡ false) × (list_any (does is_for_want (main_id p)) (since P) ≡ false)
  enough-is =
      let both = both-not (overruns p (entries_of p (since P))) (list_any (does is_for_want (main_id p)) (entries_of p (since P))) enough in
      (own-overruns p (since P) ∙ both.0, any-own p (does is_for_want (main_id p)) (own-want p) (since P) ∙ both.1)

  -- no lock is refused for want in the first j ticks
  none-for-want : (d j : ℕ) → j + d ≡ P → list_any (does is_for_want (main_id p)) (since j) ≡ false
  none-for-want zero j is = let same : P ≡ j = omega (arith, is) in subst (λ k. list_any (does is_for_want (main_id p)) (since k) ≡ false) same enough-is.1
  none-for-want (suc d) j is =
      (first-not (does is_for_want (main_id p) (entry j)) (list_any (does is_for_want (main_id p)) (since j))
      (ap (list_any (does is_for_want (main_id p))) (sym (since-next j)) ∙ none-for-want d (suc j) (omega (arith, is)))).1

  no-want : (j : ℕ) → j < P → does is_for_want (main_id p) (entry j) ≡ false
  no-want j within =
      (first-not (does is_for_want (main_id p) (entry j)) (list_any (does is_for_want (main_id p)) (since j))
      (ap (list_any (does is_for_want (main_id p))) (sym (since-next j)) ∙ none-for-want (P - suc j) (suc j) (omega (arith, within)))).0

  module _ (goes : (at 0).ended ≡ false) where
    open-first : Open p (at 0) []
    open-first = subst (λ o. Open p o []) (sym start) (record { used = refl; shut = λ is. (goes, refl, refl) })

    open-at : (j : ℕ) → j < P → Open p (at j) (since j)
    open-at zero within = open-first
    open-at (suc j) within =
        subst (λ o. Open p o (since (suc j))) (sym (at-next j within))
        (subst (λ es. Open p (after p (entry j) (at j)) es) (sym (since-next j)) (open-next p (entry j) (at j) (since j) (open-at j (omega arith))))

    differ : (b : Bool) → b ≡ true → b ≡ false → ⊥
    differ b one other = cc

    -- nothing that a tick leaves is stuck: else the window would be overrun
    never-stuck : (d j : ℕ) → suc (j + d) ≡ P → Stuck W (after p (entry j) (at j)).job → ⊥
    never-stuck zero j is stuck =
        let same : suc j ≡ P = omega (arith, is) in
        let opens = open-next p (entry j) (at j) (since j) (open-at j (omega (arith, same))) in
        let over : overruns p (since P) ≡ true =
        subst (λ k. overruns p (since k) ≡ true) same (ap (overruns p) (since-next j) ∙ overran p W (after p (entry j) (at j)) (entry j ∷ since j) opens stuck) in
        differ (overruns p (since P)) over enough-is.0
    never-stuck (suc d) j is stuck =
        let there : Stuck W (at (suc j)).job = subst (λ (o : Own). Stuck W o.job) (sym (at-next j (omega (arith, is)))) stuck in
        never-stuck d (suc j) (omega (arith, is)) (stuck-by W p (entry (suc j)) (at (suc j)) (quiet-next c p (v (on (suc j) m)) (entry (suc j)) (grown (suc j)) there) there)

    not-stuck : (j : ℕ) → j < P → Stuck W (at j).job → ⊥
    not-stuck j within stuck =
        never-stuck (P - suc j) j (omega (arith, within)) (stuck-by W p (entry j) (at j) (quiet-next c p (v (on j m)) (entry j) (grown j) stuck) stuck)

    room-open : (j : ℕ) → j < P → HasRoom W (at j).job
    room-open j within = elim (room-or-stuck W (at j).job (share-at j within)) [ inl some ↦ some | inr stuck ↦ absurd (not-stuck j within stuck) ]

    room-open-after : (j : ℕ) → j < P → HasRoom W (after p (entry j) (at j)).job
    room-open-after j within =
        elim (room-or-stuck W (after p (entry j) (at j)).job (share-at j within)) [
          | inl some ↦ some
          | inr stuck ↦ absurd (never-stuck (P - suc j) j (omega (arith, within)) stuck)
        ]

  -- a main that was stopped has no share
  share-none : (at 0).ended ≡ true → (j : ℕ) → j < P → (at j).job.share ≡ 0
  share-none gone zero within = ap (λ (o : Own). o.job.share) start ∙ ap (λ b. cond b 0 (budget c p)) gone
  share-none gone (suc j) within = ap (λ (o : Own). o.job.share) (at-next j within) ∙ share-none gone j (omega arith)

  room-at : (j : ℕ) → j < P → HasRoom W (at j).job × HasRoom W (after p (entry j) (at j)).job
  room-at j within =
      elim (cases_Bool (at 0).ended) [
        | inl gone ↦ (inr (inl (share-none gone j within)), inr (inl (share-none gone j within)))
        | inr goes ↦ (room-open goes j within, room-open-after goes j within)
      ]

  pub enough-at : (j : ℕ) → j < P → Enough c p program (on j m)
  enough-at j within =
      record {
        room = (room-at j within).0;
        asks = λ e is. subst (λ i. does is_for_want (main_id p) i ≡ false) (same-head (entry j) e (v (suc (on j m))).past (v (on j m)).past (grown j) is) (no-want j within);
        later = λ e is.
            subst (λ i. HasRoom W (booked c p i (v (on j m)).past).job) (same-head (entry j) e (v (suc (on j m))).past (v (on j m)).past (grown j) is)
            (subst (λ (o : Own). HasRoom W o.job) (sym (leaves c p program positive plains room fits (on j m) (entry j) (grown j))) (room-at j within).1);
      }
