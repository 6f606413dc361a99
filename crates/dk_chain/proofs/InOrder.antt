-- A job that comes later begins only when the one before is over: an induction along the window of the first.
use Rattle.dk_chain.proofs.Names.{ℕ, zero, suc, ◌≡◌, ◌+◌, ◌-◌, ◌%◌, ◌<◌, ◌≤◌, ◌⊎◌, inl, inr, true, false, cond, ◌&&◌, eqb, ltb, List, [], ◌∷◌, length, drop, take, refl, sym, ap, ◌∙◌, subst, arith, count_by, le_of_dvd, cases_Bool, cases_lt, and_parts, nat_tests, length-drop, Configuration, IsChecked, IsAccepted, comes_before, IsEnough, period, main_level, budget, window_start, ThreadId, Label, Choice, Phase, Entry, Has, window, borrower, is_of, is_budget_of, Thread, threads, main_thread, is_main, share, Job, job, rem, phase, held_by, is_holding, chosen, ready_at, Audited, HasChosenLabel, past_at, job_from, HadShare, window_start-le, spent, take-newest, count_by-cons, count-charged, main_id, main_row, kernel-says, budget-says, slack-says, idle-says, same-row, threads-fit, of-payer, of-borrower, of-nobody, budget-not, Passed, Turn, by_hold, by_share, Reason, kernel_first, thread_first, slack_first, nothing, now_rem, chosen-reason, Kind, paid, lent, kernel, idle, kind, Always, IsOver, HasBegun, BeginsInOrder, OverInTime, received, begins_free, main-among, not-after, passed-faster}
use Rattle.std.specs.Prelude.{Some}
use Rattle.std.proofs.Math.Seq.{drop-nil}
use Rattle.dk_trace.specs.Slack.{want, source, is_entering}
use Rattle.dk_trace.proofs.Shares.{share-same}
use Rattle.dk_trace.proofs.Rows.{main-has, main-or-child, child-of}
use Rattle.dk_trace.proofs.Orderly.{job_at, stays-closed}
use Rattle.dk_trace.proofs.Holds.{held-stopped, held-other}
use Rattle.dk_bound.specs.ByWhen.{HasHad}
use Rattle.dk_bound.proofs.Bounded.{past_at-later, window-later, window-start}
use Rattle.dk_bound.proofs.Received.{share-then}
use Rattle.dk_bound.proofs.ByWhen.{by_when, audited-drop}

pub record Rules (c : Configuration) (past : List Entry) : Type 0 where
  pub checked : IsChecked c
  pub accepted : IsAccepted c
  pub audited : Audited c past

pub rules-before : (c : Configuration) (e : Entry) (past : List Entry) → Rules c (e ∷ past) → Rules c past
rules-before c e past know = record { checked = know.checked; accepted = know.accepted; audited = know.audited.0 }

-- the job of the main's row is over
abbrev Over : Configuration → ℕ → ℕ → List Entry → Type 0
Over c p s past = let had = job_from c past (main_row c p past) s in (had.share ≤ had.used) ⊎ (had.closed ≡ true)

main-is : (c : Configuration) (p : ℕ) (past : List Entry) (x : Thread) → Rules c past → Has (threads c past) x → x.id.process ≡ p → is_main x ≡ true
    → main_row c p past ≡ x
main-is c p past x know among of_p main = grind (arith, nat_tests, threads-fit, main-or-child, child-of)

is-over : (c : Configuration) (p s : ℕ) (past : List Entry) → Rules c past → Over c p s past → IsOver c past p s
is-over c p s past know over x among of_p main =
    subst (λ y. let had = job_from c past y s in (had.share ≤ had.used) ⊎ (had.closed ≡ true)) (main-is c p past x know among of_p main) over

-- in the window that the next tick lies in, the numbers now are those of the window
pub now-from : (c : Configuration) (p s : ℕ) (past : List Entry) → s % period c (main_level c p) ≡ 0 → s ≤ length past
    → length past < s + period c (main_level c p) → job c (length past) past (main_row c p past) ≡ job_from c past (main_row c p past) s
now-from c p s past begins from under = grind (arith, nat_tests, main_row, job_at, window-start, past_at-later)

-- and with the next tick's entry
charged-from : (c : Configuration) (p s : ℕ) (e : Entry) (past : List Entry) → s % period c (main_level c p) ≡ 0 → s ≤ length past
    → length past < s + period c (main_level c p) → job c (length past) (e ∷ past) (main_row c p (e ∷ past)) ≡ job_from c (e ∷ past) (main_row c p (e ∷ past)) s
charged-from c p s e past begins from under = grind (arith, nat_tests, main_row, job_at, window-start, past_at-later)

abbrev IsSpent : Job → Type 0
IsSpent j = (j.share ≤ j.used) ⊎ (j.closed ≡ true)

spent-stays : (c : Configuration) (p : ℕ) (e : Entry) (past : List Entry) → Rules c (e ∷ past) → p < length c.processes → IsSpent (job c (length past) past (main_row c p past))
    → IsSpent (job c (length past) (e ∷ past) (main_row c p (e ∷ past)))
spent-stays c p e past know here (inl had) =
    let used : (job c (length past) (e ∷ past) (main_row c p (e ∷ past))).used ≡ spent (main_id p) e + (job c (length past) past (main_row c p past)).used = grind (arith, nat_tests, count-charged, main_id) in
    let same : (job c (length past) (e ∷ past) (main_row c p (e ∷ past))).share ≡ (job c (length past) past (main_row c p past)).share =
    share-same c p (window_start c (main_level c p) (length past)) e past (main_row c p past) know.checked here know.audited (main-has c p past) (window_start-le c (main_level c p) (length past)) in
    inl (omega (arith, had, used, same))
spent-stays c p e past know here (inr shut) = inr (stays-closed c e past (main_row c p past) shut)

over-stays : (c : Configuration) (p s : ℕ) (e : Entry) (past : List Entry) → Rules c (e ∷ past) → p < length c.processes → s % period c (main_level c p) ≡ 0 → s ≤ length past
    → length past < s + period c (main_level c p) → Over c p s past → Over c p s (e ∷ past)
over-stays c p s e past know here begins from under over =
    subst IsSpent (charged-from c p s e past begins from under)
    (spent-stays c p e past know here (subst IsSpent (sym (now-from c p s past begins from under)) over))

drop-drop : (a b : ℕ) (es : List Entry) → drop a (drop b es) ≡ drop (b + a) es
drop-drop a zero es = ap (λ k. drop k es) (omega arith)
drop-drop a (suc b) [] = drop-nil a ∙ sym (drop-nil (suc b + a))
drop-drop a (suc b) (e ∷ es) = let step : suc (b + a) ≡ suc b + a = omega arith in drop-drop a b es ∙ ap (λ k. drop k (e ∷ es)) step

pub past_at-twice : (past : List Entry) (s u : ℕ) → s ≤ u → u ≤ length past → past_at (past_at past u) s ≡ past_at past s
past_at-twice past s u le known = grind (arith, nat_tests, length-drop, drop-drop)

-- a window that has ended, by what it has received
over-ended : (c : Configuration) (p s : ℕ) (past : List Entry) → Rules c past → p < length c.processes → s % period c (main_level c p) ≡ 0
    → s + period c (main_level c p) ≤ length past → Over c p s past
over-ended c p s past know here begins le =
    let m = main_level c p in
    let P = period c m in
    let x = main_row c p past in
    let had : HadShare c past x s = (received c past know.checked know.accepted know.audited).0 x s (main-among c p past here) begins le in
    let start : window_start c m s ≡ s = rw begins (omega arith) in
    let early = past_at past (s + P) in
    let audited = audited-drop c (length past - (s + P)) past know.audited in
    let size : length early ≡ s + P = length-drop (length past - (s + P)) past ∙ omega arith in
    let then_is : share c early x s ≡ share c (past_at early s) x s = share-then c p s early x know.checked here audited refl (omega (arith, size)) in
    let whole : (job_from c past x s).share ≡ share c (past_at past s) x s = grind (arith, nat_tests, past_at-twice) in
    elim had [
      | inr shut ↦ inr shut.0
      | inl all ↦ inl (omega (arith, all, whole))
    ]

share-most : (c : Configuration) (p w : ℕ) (past : List Entry) → share c past (main_row c p past) w ≤ budget c p
share-most c p w past = grind (arith, nat_tests)

fewer-enough : (c : Configuration) (p k n f : ℕ) → k ≤ n → IsEnough c p n f → IsEnough c p k f
fewer-enough c p k n f few enough = grind (arith, nat_tests)

over-enough : (c : Configuration) (p s f : ℕ) (past : List Entry) → Rules c past → p < length c.processes → s % period c (main_level c p) ≡ 0
    → IsEnough c p (budget c p) f → length past ≡ s + f → Over c p s past
over-enough c p s f past know here begins enough at =
    let x = main_row c p past in
    let now : past_at past (s + f) ≡ past = past_at-later past (s + f) (omega arith) in
    let k = (job_from c past x s).share in
    let few : k ≤ budget c p = grind (arith, nat_tests, past_at-later, share-most) in
    let had : HasHad c past x s k =
    subst (λ es. HasHad c es x s k) now
    (by_when c past know.checked know.accepted know.audited x s f k (subst (λ es. Has (threads c es) x) (sym now) (main-among c p past here)) refl begins (omega arith)
    (fewer-enough c p k (budget c p) f few enough)) in
    elim had [
      | inl all ↦ inl all
      | inr (inl less) ↦ absurd (omega (arith, less))
      | inr (inr shut) ↦ inr shut
    ]

over-by : (c : Configuration) (p s f : ℕ) (past : List Entry) → Rules c past → p < length c.processes → s % period c (main_level c p) ≡ 0
    → IsEnough c p (budget c p) f → s + f ≤ length past → Over c p s past
over-by c p s f [] know here begins enough le = over-enough c p s f [] know here begins enough (omega arith)
over-by c p s f (e ∷ past) know here begins enough le =
    elim (cases_lt (length past) (s + f)) [
      | inl now ↦ over-enough c p s f (e ∷ past) know here begins enough (omega arith)
      | inr earlier ↦
          elim (cases_lt (length past) (s + period c (main_level c p))) [
            | inl within ↦
                over-stays c p s e past know here begins (omega arith) within
                (over-by c p s f past (rules-before c e past know) here begins enough (omega arith))
            | inr ended ↦ over-ended c p s (e ∷ past) know here begins (omega arith)
          ]
    ]

-- the later main has had no tick of its window yet and holds nothing
pub record Waits (c : Configuration) (q s : ℕ) (past : List Entry) : Type 0 where
  pub unbegun : (job_from c past (main_thread c q) s).used ≡ 0
  pub free : is_holding (held_by (main_id q) past) ≡ false

-- p comes before q
pub record Comes (c : Configuration) (p q : ℕ) : Type 0 where
  pub first : p < length c.processes
  pub second : q < length c.processes
  pub before : (main_level c p < main_level c q) ⊎ ((main_level c p ≡ main_level c q) × (p < q))

pub unbegun-start : (c : Configuration) (q s : ℕ) (past : List Entry) → s % period c (main_level c q) ≡ 0 → length past ≤ s → (job_from c past (main_thread c q) s).used ≡ 0
unbegun-start c q s past begins late = ap (count_by (is_budget_of (main_id q))) (window-later c past (main_level c q) s begins late)

pub used-from : (c : Configuration) (q s : ℕ) (e : Entry) (past : List Entry) → s ≤ length past → suc (length past) ≤ s + period c (main_level c q)
    → (job_from c (e ∷ past) (main_thread c q) s).used ≡ spent (main_id q) e + (job_from c past (main_thread c q) s).used
used-from c q s e past from within =
    let i = main_level c q in
    let w = window_start c i s in
    let le : w ≤ length past = (let low = window_start-le c i s in omega arith) in
    let count : List Entry → ℕ = count_by (is_budget_of (main_id q)) in
    ap (λ es. count (window c s es i)) (past_at-later (e ∷ past) (s + period c i) within)
    ∙ ap count (take-newest (length past) w e past le)
    ∙ count_by-cons (is_budget_of (main_id q)) e (take (length past - w) past)
    ∙ ap (λ es. spent (main_id q) e + count (window c s es i)) (sym (past_at-later past (s + period c i) (omega arith)))

-- whom a tick is lent to, and that every level up to its own has nothing to do
pub lent-at : (c : Configuration) (past : List Entry) (choice : Choice) (label : Label) (z : ThreadId) → Reason c past choice → HasChosenLabel choice label → borrower label ≡ Some z
    → (y : Thread) × Has (threads c past) y × Passed c past (suc y.level) × (z ≡ y.id)
lent-at c past _ label z (kernel_first k known passed some) has lends = let none = (kernel-says k label has).borrows in absurd (cc)
lent-at c past _ label z (thread_first k x known passed among turn) has lends =
    let none = (budget-says x.id (phase c.costs.switch (job c (length past) past x)) label has).borrows in absurd (cc)
lent-at c past _ label z (slack_first k x known passed among wishes fitting) has lends =
    let n = length past in
    let is = (slack-says x.id (source c n past) (cond (is_entering c n past x) Phase.In Phase.Body) label has).borrows in
    let parts = and_parts ((eqb x.level k) && eqb (now_rem c past x) 0) (ltb 0 (want c n past x)) wishes in
    let at : eqb x.level k ≡ true = (and_parts (eqb x.level k) (eqb (now_rem c past x) 0) parts.0).0 in
    let level : k ≡ x.level = grind (arith, nat_tests) in
    let same : z ≡ x.id = cc in
    (x, among, subst (λ i. Passed c past (suc i)) level passed, same)
lent-at c past _ label z (nothing passed) has lends = let none = (idle-says label has).borrows in absurd (cc)

-- the later main has no tick while the first has something left
not-yet : (c : Configuration) (p q : ℕ) (e : Entry) (past : List Entry) → Rules c (e ∷ past) → Comes c p q → 0 < now_rem c past (main_row c p past)
    → is_holding (held_by (main_id q) past) ≡ false → is_of (main_id q) e ≡ true → Kind c past e.label → ⊥
not-yet c p q e past know comes left free mine (paid k y known passed has turn pays borrows at) =
    let fit = threads-fit c past know.checked know.audited.0 in
    let id : main_id q ≡ y.id = of-payer (main_id q) y.id e pays mine in
    let row : main_row c q past ≡ y = same-row (threads c past) (main_row c q past) y fit.distinct (main-among c q past comes.second) has id in
    go (subst (Turn c past k) (sym row) turn)
  where
    go : Turn c past k (main_row c q past) → ⊥
    go (by_hold holds level) = absurd (cc)
    go (by_share nobody first level some) =
        let fast : k ≤ main_level c p = passed-faster c p k past comes.first left passed in
        elim comes.before [
          | inl faster ↦ absurd (omega (arith, fast, faster, level))
          | inr same ↦
              let here : k ≡ main_level c p = sym level ∙ sym same.0 in
              let less : p < q = same.1 in
              let is : main_row c q past ≡ main_row c p past =
              not-after c p past (main_row c q past) know.checked know.audited.0 comes.first left (subst (λ i. ready_at c past i ≡ Some (main_row c q past)) here first) (omega (arith, less)) in
              let process : q ≡ p = ap (λ x. x.id.process) is in
              absurd (omega (arith, process, less))
        ]
not-yet c p q e past know comes left free mine (lent k x known passed has none room pays borrows at) =
    let fit = threads-fit c past know.checked know.audited.0 in
    let l = lent-at c past (chosen c past) e.label x.id (chosen-reason c past) know.audited.1.choice borrows in
    let y = l.0 in
    let id : main_id q ≡ y.id = of-borrower (main_id q) x.id e borrows mine ∙ l.3 in
    let row : main_row c q past ≡ y = same-row (threads c past) (main_row c q past) y fit.distinct (main-among c q past comes.second) l.1 id in
    let level : main_level c q ≡ y.level = ap (λ z. z.level) row in
    let fast : suc y.level ≤ main_level c p = passed-faster c p (suc y.level) past comes.first left l.2 in
    elim comes.before [
      | inl faster ↦ absurd (omega (arith, fast, faster, level))
      | inr same ↦ let equal = same.0 in absurd (omega (arith, fast, equal, level))
    ]
not-yet c p q e past know comes left free mine (kernel k known passed some pays borrows at) = of-nobody (main_id q) e pays borrows mine
not-yet c p q e past know comes left free mine (idle passed pays borrows at) = of-nobody (main_id q) e pays borrows mine

pub waits-on : (c : Configuration) (q s : ℕ) (e : Entry) (past : List Entry) → s ≤ length past → suc (length past) ≤ s + period c (main_level c q)
    → is_of (main_id q) e ≡ false → Waits c q s past → Waits c q s (e ∷ past)
waits-on c q s e past from within other waits = grind (arith, nat_tests, used-from, spent, main_id, budget-not, held-stopped, held-other)

-- with nothing left it is over
rem-spent : (W : ℕ) (j : Job) → rem W j ≡ 0 → IsSpent j
rem-spent W j none = grind (arith, nat_tests)

in-order : (c : Configuration) (p q s : ℕ) (past : List Entry) → Rules c past → Comes c p q → s % period c (main_level c p) ≡ 0 → s % period c (main_level c q) ≡ 0
    → period c (main_level c p) ≤ period c (main_level c q) → s ≤ length past → length past ≤ s + period c (main_level c p) → Over c p s past ⊎ Waits c q s past
in-order c p q s [] know comes begins starts shorter from within = grind (arith, nat_tests, unbegun-start)
in-order c p q s (e ∷ past) know comes begins starts shorter from within =
    elim (cases_lt (length past) s) [
      | inl new ↦
          let now : suc (length past) ≡ s = omega arith in
          let starts' : suc (length past) % period c (main_level c q) ≡ 0 = ap (λ k. k % period c (main_level c q)) now ∙ starts in
          inr (record {
            unbegun = unbegun-start c q s (e ∷ past) starts (omega arith);
            free = begins_free c (e ∷ past) know.checked know.accepted know.audited (main_row c q (e ∷ past)) (main-among c q (e ∷ past) comes.second) starts';
          })
      | inr old ↦
          elim (in-order c p q s past (rules-before c e past know) comes begins starts shorter (omega arith) (omega arith)) [
            | inl over ↦ inl (over-stays c p s e past know comes.first begins (omega arith) (omega arith) over)
            | inr waits ↦
                elim (cases_lt 0 (now_rem c past (main_row c p past))) [
                  | inr none ↦
                      let over : Over c p s past =
                      subst IsSpent (now-from c p s past begins (omega arith) (omega arith))
                      (rem-spent c.costs.switch (job c (length past) past (main_row c p past)) (omega arith)) in
                      inl (over-stays c p s e past know comes.first begins (omega arith) (omega arith) over)
                  | inl left ↦
                      elim (cases_Bool (is_of (main_id q) e)) [
                        | inl mine ↦ absurd (not-yet c p q e past know comes left waits.free mine (kind c past e know.audited.1))
                        | inr other ↦ inr (waits-on c q s e past (omega arith) (omega arith) other waits)
                      ]
                ]
          ]
    ]

pub comes-of : (c : Configuration) (p q : ℕ) → p < length c.processes → q < length c.processes → comes_before c p q ≡ true → Comes c p q
comes-of c p q first second comes = grind (arith, nat_tests, and_parts)

pub at-tick : (c : Configuration) (past : List Entry) (u : ℕ) → Rules c past → Rules c (past_at past u)
at-tick c past u know = record { checked = know.checked; accepted = know.accepted; audited = audited-drop c (length past - u) past know.audited }

together : (c : Configuration) (p q s : ℕ) (past : List Entry) → Rules c past → Comes c p q → s % period c (main_level c p) ≡ 0 → s % period c (main_level c q) ≡ 0
    → HasBegun c past q s → Over c p s past
together c p q s past know comes begins starts begun =
    let checked = know.checked in
    let there = checked.levels q comes.second in
    let order : main_level c p ≤ main_level c q = (elim comes.before [ inl faster ↦ omega arith | inr same ↦ (let equal = same.0 in omega arith) ]) in
    let shorter : period c (main_level c p) ≤ period c (main_level c q) =
    le_of_dvd (checked.positive (main_level c q) there) (checked.divides (main_level c p) (main_level c q) order there) in
    elim (cases_lt (length past) s) [
      | inl early ↦ let none = unbegun-start c q s past starts (omega arith) in absurd (omega (arith, begun, none))
      | inr from ↦
          elim (cases_lt (length past) (s + period c (main_level c p))) [
            | inr ended ↦ over-ended c p s past know comes.first begins (omega arith)
            | inl within ↦ grind (arith, nat_tests, in-order)
          ]
    ]

pub begins_in_order : Always BeginsInOrder
begins_in_order c past checked accepted audited p s q r here there begins starts (inl same) u known begun =
    let know = at-tick c past u (record { checked = checked; accepted = accepted; audited = audited }) in
    let comes = comes-of c p q here there same.0 in
    is-over c p s (past_at past u) know
    (together c p q s (past_at past u) know comes begins (subst (λ w. w % period c (main_level c q) ≡ 0) same.1 starts)
    (subst (HasBegun c (past_at past u) q) same.1 begun))
begins_in_order c past checked accepted audited p s q r here there begins starts (inr later) u known begun =
    let know = at-tick c past u (record { checked = checked; accepted = accepted; audited = audited }) in
    let size : length (past_at past u) ≡ u = length-drop (length past - u) past ∙ omega arith in
    let le = later.2 in
    elim (cases_lt r u) [
      | inl late ↦ is-over c p s (past_at past u) know (over-by c p s later.0 (past_at past u) know here begins later.1 (omega (arith, size, le, late)))
      | inr early ↦ let none = unbegun-start c q r (past_at past u) starts (omega (arith, size, early)) in absurd (omega (arith, begun, none))
    ]

pub over_in_time : Always OverInTime
over_in_time c past checked accepted audited p s f u here begins enough le known =
    let know = at-tick c past u (record { checked = checked; accepted = accepted; audited = audited }) in
    let size : length (past_at past u) ≡ u = length-drop (length past - u) past ∙ omega arith in
    is-over c p s (past_at past u) know (over-by c p s f (past_at past u) know here begins enough (omega (arith, size, le)))
