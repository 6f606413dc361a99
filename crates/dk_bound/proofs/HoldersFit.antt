-- The holders after an entry, and at the next tick.
use Rattle.dk_bound.proofs.Names.{ℕ, suc, ◌≡◌, ◌-◌, ◌%◌, ◌<◌, ◌≤◌, ◌⊎◌, inl, inr, Bool, true, false, cond, not, eqb, List, [], ◌∷◌, length, refl, sym, ap, ◌∙◌, subst, arith, ◌+◌, map, filter, cases_Bool, cases_lt, cases_eq, and_right, nat_tests, Configuration, IsChecked, period, longest_hold, ThreadId, Event, Label, Choice, Phase, Source, Entry, is_of, is_budget_of, does, is_wait, stops, payer, borrower, Thread, threads, family, after_entry, Job, job, phase, body_left, thread_body_left, thread_rem, Hold, aged, held_after, held_by, is_holding, level_holding, effective_level, is_holder, work_of, HasChosenLabel, MayHave, Audited, Follows, source, is_entering, chosen, mod-next, count-charged, Has, same-row, Passed, Turn, by_hold, by_share, now_rem, Reason, kernel_first, thread_first, slack_first, nothing, chosen-reason, wishing-none, budget-labels, slack-labels, chosen-says, Kind, paid, lent, kernel, idle, kind, actor-follows, budget-not, of-payer, of-borrower, of-nobody, RowFits, ThreadsFit, threads-fit, row-stays, job-moves, held-stopped, held-other, held-mine, aged-holding}
use Rattle.std.proofs.Common.{Option, Some, None}
use Rattle.dk_bound.proofs.Holding.{Rising, Users, Holder, HoldersFit}
use Rattle.dk_bound.proofs.Nesting.{EventFits, Rising-none, Rising-after, Users-aged, Users-after, IsUnder, under-aged, users-under, level-aged, level-filter}
use Rattle.dk_bound.proofs.Bodies.{level-positive, body-entry, body-rem, body-stands}
use Rattle.dk_bound.proofs.Locks.{Mine, by_budget, by_slack, mine-kind, met, AreMet, event-fits, locks-own, waits, waits-none, runs-on, lock-met}

pub holds-nothing : (held : List Hold) → is_holding held ≡ false → held ≡ []
holds-nothing held h = grind (arith, nat_tests)

pub holds-some : (held : List Hold) → held ≡ [] → is_holding held ≡ true → ⊥
holds-some held none h = let e : is_holding held ≡ false = ap is_holding none in absurd (cc)

-- what the invariant says of a row
pub row-nested : (c : Configuration) (now : ℕ) (past : List Entry) (x : Thread) → ThreadsFit c past → HoldersFit c now past → Has (threads c past) x
    → Rising c 1 (thread_body_left c now past x) (held_by x.id past)
row-nested c now past x fit inv among =
    elim (cases_Bool (is_holder past x)) [
      | inl holding ↦
          let h = inv.holder x.id holding in
          let row : h.row ≡ x = same-row (threads c past) h.row x fit.distinct h.among among h.same in
          subst (λ y. Rising c 1 (thread_body_left c now past y) (held_by x.id past)) row h.nested
      | inr free ↦ rw (holds-nothing (held_by x.id past) free) tt
    ]

pub row-users : (c : Configuration) (now : ℕ) (past : List Entry) (x : Thread) → HoldersFit c now past → Users c x.id.process (held_by x.id past)
row-users c now past x inv =
    elim (cases_Bool (is_holder past x)) [
      | inl holding ↦ (inv.holder x.id holding).users
      | inr free ↦ rw (holds-nothing (held_by x.id past) free) tt
    ]

pub Rising-some : (c : Configuration) (high : ℕ) (held : List Hold) → Rising c 1 high held → is_holding held ≡ true → 0 < high
Rising-some c high held r h = grind (arith, nat_tests)

-- no mutex that a thread holds has a ceiling slower than the thread's own level
pub row-under : (c : Configuration) (now : ℕ) (past : List Entry) (x : Thread) → IsChecked c → ThreadsFit c past → HoldersFit c now past → Has (threads c past) x
    → IsUnder c x.level (held_by x.id past)
row-under c now past x checked fit inv among = users-under c x.id.process x.level (held_by x.id past) checked (fit.rows x among).low (row-users c now past x inv)

-- a holder has something left of its share, and is not closed
pub holder-rem : (c : Configuration) (now : ℕ) (past : List Entry) (x : Thread) → ThreadsFit c past → HoldersFit c now past → Has (threads c past) x
    → is_holder past x ≡ true → 0 < thread_rem c now past x
holder-rem c now past x fit inv among holding =
    let some = Rising-some c (thread_body_left c now past x) (held_by x.id past) (row-nested c now past x fit inv among) holding in
    let le = body-rem c.costs.switch (job c now past x) in
    omega arith

pub holder-stands : (c : Configuration) (now : ℕ) (past : List Entry) (x : Thread) → ThreadsFit c past → HoldersFit c now past → Has (threads c past) x
    → is_holder past x ≡ true → (job c now past x).closed ≡ false
holder-stands c now past x fit inv among holding =
    body-stands c.costs.switch (job c now past x)
    (Rising-some c (thread_body_left c now past x) (held_by x.id past) (row-nested c now past x fit inv among) holding)

-- the thread that was chosen is of a level before that of every other holder
pub before-holders : (c : Configuration) (past : List Entry) (k : ℕ) (x y : Thread) → ThreadsFit c past → HoldersFit c (length past) past
    → Passed c past k → Turn c past k x → Has (threads c past) x → Has (threads c past) y → (x.id ≡ y.id → ⊥) → is_holder past y ≡ true
    → x.level < effective_level c past y
before-holders c past k x y fit inv passed turn here there apart holding =
    let left = holder-rem c (length past) past y fit inv there holding in
    let own : k ≤ y.level =
    elim (cases_lt y.level k) [
      | inl before ↦ let none = (passed y.level before).ready y there refl in absurd (omega arith)
      | inr after ↦ after
    ] in
    let runs : k ≤ effective_level c past y =
    elim (cases_lt (effective_level c past y) k) [
      | inl before ↦ absurd ((passed (effective_level c past y) before).holders y there holding refl)
      | inr after ↦ after
    ] in
    first turn own runs
  where
    first : Turn c past k x → k ≤ y.level → k ≤ effective_level c past y → x.level < effective_level c past y
    first (by_hold holds level) own runs =
        elim (inv.order x y here there apart holds holding) [
          | inl less ↦ less
          | inr more ↦ absurd (omega arith)
        ]
    first (by_share nobody before level left) own runs =
        elim (cases_eq (effective_level c past y) k) [
          | inl same ↦ absurd (nobody y there holding same)
          | inr other ↦ omega arith
        ]

-- the holds of a row after an entry that does not stop it
pub record AfterEntry (c : Configuration) (e : Entry) (past : List Entry) (x : Thread) : Type 0 where
  pub nested : Rising c 1 (thread_body_left c (length past) (e ∷ past) (after_entry e (length past) x)) (held_by x.id (e ∷ past))
  pub users : Users c x.id.process (held_by x.id (e ∷ past))

after-other : (c : Configuration) (e : Entry) (past : List Entry) (x : Thread) → IsChecked c → RowFits c x → Has (family c x.id.process past) x → Audited c (e ∷ past)
    → Rising c 1 (thread_body_left c (length past) past x) (held_by x.id past) → Users c x.id.process (held_by x.id past)
    → stops x.id e ≡ false → is_of x.id e ≡ false → AfterEntry c e past x
after-other c e past x checked row has audited nested users runs other =
    let held = held-other x.id e past runs other in
    let waits_not : does is_wait x.id e ≡ false = rw other refl in
    let pays_not = budget-not x.id e other in
    let body : thread_body_left c (length past) (e ∷ past) (after_entry e (length past) x) ≡ thread_body_left c (length past) past x =
    body-entry c e past x checked row has audited runs waits_not ∙ ap (λ b. thread_body_left c (length past) past x - cond b 1 0) pays_not ∙ omega arith in
    record {
      nested = subst (λ hs. Rising c 1 (thread_body_left c (length past) (e ∷ past) (after_entry e (length past) x)) hs) (sym held) (subst (λ b. Rising c 1 b (held_by x.id past)) (sym body) nested);
      users = subst (Users c x.id.process) (sym held) users;
    }

-- after an entry of the thread on slack it holds nothing
slack-none : (c : Configuration) (high : ℕ) (event : Option Event) → EventFits c (high - 0) [] event → high ≡ 0 → held_after event [] ≡ []
slack-none c high event fits none = grind (arith, nat_tests)

-- a thread that has nothing left holds nothing
pub spent-free : (c : Configuration) (past : List Entry) (x : Thread) → now_rem c past x ≡ 0
    → Rising c 1 (thread_body_left c (length past) past x) (held_by x.id past) → held_by x.id past ≡ []
spent-free c past x none nested =
    let le = body-rem c.costs.switch (job c (length past) past x) in
    Rising-none c (held_by x.id past) (subst (λ b. Rising c 1 b (held_by x.id past)) (omega arith) nested)

pub slack-held : (c : Configuration) (e : Entry) (past : List Entry) (x : Thread) → IsChecked c → now_rem c past x ≡ 0 → held_by x.id past ≡ []
    → is_of x.id e ≡ true → is_budget_of x.id e ≡ false → AreMet c past e x e.event → held_after e.event (map aged (held_by x.id past)) ≡ []
slack-held c e past x checked none free mine pays are =
    let high = thread_body_left c (length past) past x in
    let le = body-rem c.costs.switch (job c (length past) past x) in
    let event : EventFits c (high - 0) [] e.event =
    subst (λ hs. EventFits c (high - 0) (map aged hs) e.event) free
    (subst (λ b. EventFits c (high - cond b 1 0) (map aged (held_by x.id past)) e.event) pays (event-fits c e past x e.event checked mine are)) in
    ap (λ hs. held_after e.event (map aged hs)) free ∙ slack-none c high e.event event (omega arith)

after-mine : (c : Configuration) (e : Entry) (past : List Entry) (x : Thread) → IsChecked c → RowFits c x → Has (family c x.id.process past) x → Audited c (e ∷ past)
    → Rising c 1 (thread_body_left c (length past) past x) (held_by x.id past)
    → stops x.id e ≡ false → is_of x.id e ≡ true → AreMet c past e x e.event → Mine c past e x
    → Rising c 1 (thread_body_left c (length past) (e ∷ past) (after_entry e (length past) x)) (held_after e.event (map aged (held_by x.id past)))
after-mine c e past x checked row has audited nested runs mine are (by_budget k known passed turn pays) =
    elim (cases_Bool (waits e.event)) [
      | inl waiting ↦ rw (waits-none c e past x e.event mine are waiting) tt
      | inr working ↦
          let high = thread_body_left c (length past) past x in
          let waits_not : does is_wait x.id e ≡ false = and_right (is_of x.id e) (waits e.event) working in
          let body : thread_body_left c (length past) (e ∷ past) (after_entry e (length past) x) ≡ high - 1 =
          body-entry c e past x checked row has audited runs waits_not ∙ ap (λ b. high - cond b 1 0) pays in
          let must = (actor-follows c past e x.id audited.1 mine).last in
          let event : EventFits c (high - 1) (map aged (held_by x.id past)) e.event =
          subst (λ b. EventFits c (high - cond b 1 0) (map aged (held_by x.id past)) e.event) pays (event-fits c e past x e.event checked mine are) in
          subst (λ b. Rising c 1 b (held_after e.event (map aged (held_by x.id past)))) (sym body)
          (Rising-after c high (held_by x.id past) e.event nested must (runs-on x.id e runs mine) event)
    ]
after-mine c e past x checked row has audited nested runs mine are (by_slack none pays) =
    rw (slack-held c e past x checked none (spent-free c past x none nested) mine pays are) tt

pub after-entry : (c : Configuration) (e : Entry) (past : List Entry) (x : Thread) → IsChecked c → Audited c past → ThreadsFit c past → HoldersFit c (length past) past → Follows c past e
    → Has (threads c past) x → stops x.id e ≡ false → AfterEntry c e past x
after-entry c e past x checked audited fit inv follows among runs =
    let row = fit.rows x among in
    let place = fit.place x among in
    let along : Audited c (e ∷ past) = (audited, follows) in
    let nested = row-nested c (length past) past x fit inv among in
    let users = row-users c (length past) past x inv in
    elim (cases_Bool (is_of x.id e)) [
      | inr other ↦ after-other c e past x checked row place along nested users runs other
      | inl mine ↦
          let held = held-mine x.id e past runs mine in
          let are : AreMet c past e x e.event = λ given is. met c past e x given fit among follows mine is in
          record {
            nested =
                subst (Rising c 1 (thread_body_left c (length past) (e ∷ past) (after_entry e (length past) x))) (sym held)
                (after-mine c e past x checked row place along nested runs mine are (mine-kind c past e x fit among mine (kind c past e follows)));
            users =
                subst (Users c x.id.process) (sym held)
                (Users-after c x.id.process (map aged (held_by x.id past)) e.event (Users-aged c x.id.process (held_by x.id past) users)
                (locks-own c e past x e.event checked mine are));
          }
    ]

-- whoever holds after the entry was there before it, and the entry does not stop it
pub record Kept (c : Configuration) (e : Entry) (past : List Entry) (x : ThreadId) : Type 0 where
  pub row : Thread
  pub among : Has (threads c past) row
  pub same : row.id ≡ x
  pub runs : stops x e ≡ false

pub actor-row : (c : Configuration) (past : List Entry) (e : Entry) (x : ThreadId) → is_of x e ≡ true → Kind c past e.label → (row : Thread) × Has (threads c past) row × (row.id ≡ x)
actor-row c past e x mine (paid k y known passed has turn pays borrows level) = (y, has, sym (of-payer x y.id e pays mine))
actor-row c past e x mine (lent k y known passed has none fitting pays borrows level) = (y, has, sym (of-borrower x y.id e borrows mine))
actor-row c past e x mine (kernel k known passed left pays borrows level) = absurd (of-nobody x e pays borrows mine)
actor-row c past e x mine (idle passed pays borrows level) = absurd (of-nobody x e pays borrows mine)

pub kept : (c : Configuration) (e : Entry) (past : List Entry) (x : ThreadId) → HoldersFit c (length past) past → Follows c past e
    → is_holding (held_by x (e ∷ past)) ≡ true → Kept c e past x
kept c e past x inv follows holding =
    elim (cases_Bool (stops x e)) [
      | inl over ↦ absurd (holds-some (held_by x (e ∷ past)) (held-stopped x e past over) holding)
      | inr runs ↦
          elim (cases_Bool (is_of x e)) [
            | inl mine ↦
                let r = actor-row c past e x mine (kind c past e follows) in
                record { row = r.0; among = r.1; same = r.2; runs = runs }
            | inr other ↦
                let held = held-other x e past runs other in
                let was : is_holding (held_by x past) ≡ true = subst (λ hs. is_holding hs ≡ true) held holding in
                let h = inv.holder x was in
                record { row = h.row; among = h.among; same = h.same; runs = runs }
          ]
    ]

abbrev pub is_lock : Option Event → Bool
is_lock (Some (Event.Lock m)) = true
is_lock _ = false

-- unless the thread locks, it holds no more than before
pub record Fewer (c : Configuration) (held held' : List Hold) : Type 0 where
  pub held_before : is_holding held' ≡ true → is_holding held ≡ true
  pub level : (own : ℕ) → IsUnder c own held → level_holding c own held ≤ level_holding c own held'

aged-fewer : (c : Configuration) (held : List Hold) → Fewer c held (map aged held)
aged-fewer c held = record {
  held_before = λ h. sym (aged-holding held) ∙ h;
  level = λ own under. let same = level-aged c own held in omega arith;
}

filter-holding : (test : Hold → Bool) (held : List Hold) → is_holding (filter test held) ≡ true → is_holding held ≡ true
filter-holding test held h = grind (arith, nat_tests)

after-fewer : (c : Configuration) (held : List Hold) (event : Option Event) → is_lock event ≡ false → Fewer c held (held_after event (map aged held))
after-fewer c held (Some (Event.Lock m)) h = absurd (cc)
after-fewer c held (Some (Event.Unlock m)) h =
    let test : Hold → Bool = λ k. not (eqb k.mutex m) in
    record {
      held_before = λ g. sym (aged-holding held) ∙ filter-holding test (map aged held) g;
      level = λ own under. let same = level-aged c own held in let less = level-filter c own test (map aged held) (under-aged c own held under) in omega arith;
    }
after-fewer c held None h = aged-fewer c held
after-fewer c held (Some event) h = aged-fewer c held

same-fewer : (c : Configuration) (held : List Hold) → Fewer c held held
same-fewer c held = record { held_before = λ h. h; level = λ own under. omega arith }

-- what the entry did to a thread's holds
pub data Change (c : Configuration) (e : Entry) (past : List Entry) (x : ThreadId) : Type 0 where
  locked : is_of x e ≡ true → is_lock e.event ≡ true → Change c e past x
  fewer : Fewer c (held_by x past) (held_by x (e ∷ past)) → Change c e past x

pub change : (c : Configuration) (e : Entry) (past : List Entry) (x : ThreadId) → stops x e ≡ false → Change c e past x
change c e past x runs =
    elim (cases_Bool (is_of x e)) [
      | inr other ↦ fewer (subst (Fewer c (held_by x past)) (sym (held-other x e past runs other)) (same-fewer c (held_by x past)))
      | inl mine ↦
          elim (cases_Bool (is_lock e.event)) [
            | inl locks ↦ locked mine locks
            | inr quiet ↦ fewer (subst (Fewer c (held_by x past)) (sym (held-mine x e past runs mine)) (after-fewer c (held_by x past) e.event quiet))
          ]
    ]

-- who locks has body left, so it runs on its budget
lock-pays : (c : Configuration) (past : List Entry) (e : Entry) (x : Thread) (event : Option Event) → IsChecked c → is_of x.id e ≡ true → AreMet c past e x event → is_lock event ≡ true
    → Mine c past e x → (k : ℕ) × Passed c past k × Turn c past k x
lock-pays c past e x event checked mine are locks (by_budget k known passed turn pays) = (k, passed, turn)
lock-pays c past e x (Some (Event.Lock m)) checked mine are locks (by_slack none pays) =
    let fits = (lock-met c e past x m checked mine (are (Event.Lock m) refl)).in_time in
    let positive = fits.positive in
    let in_time : longest_hold c m ≤ thread_body_left c (length past) past x - 0 = subst (λ b. longest_hold c m ≤ thread_body_left c (length past) past x - cond b 1 0) pays fits.ends_in_time in
    let le = body-rem c.costs.switch (job c (length past) past x) in
    absurd (omega arith)
lock-pays c past e x None checked mine are locks (by_slack none pays) = absurd (cc)
lock-pays c past e x (Some event) checked mine are locks (by_slack none pays) = absurd (cc)

-- the ticks that a thread has used after an entry
used-entry : (c : Configuration) (e : Entry) (past : List Entry) (x : Thread)
    → (job c (length past) (e ∷ past) (after_entry e (length past) x)).used ≡ cond (is_budget_of x.id e) 1 0 + (job c (length past) past x).used
used-entry c e past x = count-charged (is_budget_of x.id) c e past x.level

-- who locks on its budget is in its body, so it has been switched in
lock-phase : (W : ℕ) (j : Job) (x : ThreadId) (label : Label) (event : Option Event) → HasChosenLabel (Choice.Budget x (phase W j)) label → is_lock event ≡ true
    → MayHave (work_of label) event → W ≤ j.used
lock-phase W j x label event has locks may = grind (arith, nat_tests)

-- a thread that locks has been switched in
lock-entered_by : (c : Configuration) (past : List Entry) (e : Entry) (x : Thread) (choice : Choice) → ThreadsFit c past → Has (threads c past) x
    → is_of x.id e ≡ true → is_lock e.event ≡ true → MayHave (work_of e.label) e.event → (now_rem c past x ≡ 0 → ⊥) → HasChosenLabel choice e.label
    → Reason c past choice → c.costs.switch ≤ (job c (length past) past x).used
lock-entered_by c past e x _ fit among mine locks may some label (kernel_first k known passed left) =
    absurd (of-nobody x.id e (chosen-says payer (Choice.Kernel k) e.label None label (λ w. refl)) (chosen-says borrower (Choice.Kernel k) e.label None label (λ w. refl)) mine)
lock-entered_by c past e x _ fit among mine locks may some label (thread_first k y known passed has turn) =
    let j : Job = job c (length past) past y in
    let f : Phase = phase c.costs.switch j in
    let pays = chosen-says payer (Choice.Budget y.id f) e.label (Some y.id) label (λ w. (budget-labels y.id f w).0) in
    let row : y ≡ x = same-row (threads c past) y x fit.distinct has among (sym (of-payer x.id y.id e pays mine)) in
    subst (λ z. c.costs.switch ≤ (job c (length past) past z).used) row (lock-phase c.costs.switch j y.id e.label e.event label locks may)
lock-entered_by c past e x _ fit among mine locks may some label (slack_first k y known passed has wishes fitting) =
    let from : Source = source c (length past) past in
    let f : Phase = cond (is_entering c (length past) past y) Phase.In Phase.Body in
    let lent = chosen-says borrower (Choice.Slack y.id from f) e.label (Some y.id) label (λ w. (slack-labels y.id from f w).1) in
    let row : y ≡ x = same-row (threads c past) y x fit.distinct has among (sym (of-borrower x.id y.id e lent mine)) in
    absurd (some (subst (λ z. now_rem c past z ≡ 0) row (wishing-none c past k y wishes)))
lock-entered_by c past e x _ fit among mine locks may some label (nothing passed) =
    absurd (of-nobody x.id e (chosen-says payer Choice.Idle e.label None label (λ w. refl)) (chosen-says borrower Choice.Idle e.label None label (λ w. refl)) mine)

lock-some : (c : Configuration) (past : List Entry) (e : Entry) (x : Thread) (event : Option Event) → IsChecked c → is_of x.id e ≡ true → AreMet c past e x event → is_lock event ≡ true
    → now_rem c past x ≡ 0 → ⊥
lock-some c past e x (Some (Event.Lock m)) checked mine are locks none =
    let fits = (lock-met c e past x m checked mine (are (Event.Lock m) refl)).in_time in
    let positive = fits.positive in
    let in_time = fits.ends_in_time in
    let le = body-rem c.costs.switch (job c (length past) past x) in
    absurd (omega arith)
lock-some c past e x None checked mine are locks none = absurd (cc)
lock-some c past e x (Some event) checked mine are locks none = absurd (cc)

lock-entered : (c : Configuration) (past : List Entry) (e : Entry) (x : Thread) → IsChecked c → ThreadsFit c past → Follows c past e → Has (threads c past) x
    → is_of x.id e ≡ true → is_lock e.event ≡ true → c.costs.switch ≤ (job c (length past) past x).used
lock-entered c past e x checked fit follows among mine locks =
    lock-entered_by c past e x (chosen c past) fit among mine locks follows.work
    (lock-some c past e x e.event checked mine (λ given is. met c past e x given fit among follows mine is) locks) follows.choice (chosen-reason c past)

-- who holds after an entry has been switched in
entered-after : (c : Configuration) (e : Entry) (past : List Entry) (row : Thread) → IsChecked c → ThreadsFit c past → HoldersFit c (length past) past → Follows c past e
    → Has (threads c past) row → is_holding (held_by row.id (e ∷ past)) ≡ true → Change c e past row.id
    → c.costs.switch ≤ (job c (length past) (e ∷ past) (after_entry e (length past) row)).used
entered-after c e past row checked fit inv follows among holding (locked mine locks) =
    omega (arith, used-entry c e past row, lock-entered c past e row checked fit follows among mine locks)
entered-after c e past row checked fit inv follows among holding (fewer less) =
    let h = inv.holder row.id (less.held_before holding) in
    let same : h.row ≡ row = same-row (threads c past) h.row row fit.distinct h.among among h.same in
    let before : c.costs.switch ≤ (job c (length past) past row).used = subst (λ y. c.costs.switch ≤ (job c (length past) past y).used) same h.entered in
    omega (arith, used-entry c e past row, before)

holder-entry : (c : Configuration) (e : Entry) (past : List Entry) (x : ThreadId) → IsChecked c → Audited c past → ThreadsFit c past → HoldersFit c (length past) past → Follows c past e
    → is_holding (held_by x (e ∷ past)) ≡ true → Kept c e past x → Holder c (length past) (e ∷ past) x
holder-entry c e past x checked audited fit inv follows holding k =
    let row = k.row in
    let runs : stops row.id e ≡ false = subst (λ i. stops i e ≡ false) (sym k.same) k.runs in
    let holding' : is_holding (held_by row.id (e ∷ past)) ≡ true = subst (λ i. is_holding (held_by i (e ∷ past)) ≡ true) (sym k.same) holding in
    let after = after-entry c e past row checked audited fit inv follows k.among runs in
    record {
      row = after_entry e (length past) row;
      among = row-stays c e past row fit k.among;
      same = k.same;
      nested = subst (λ i. Rising c 1 (thread_body_left c (length past) (e ∷ past) (after_entry e (length past) row)) (held_by i (e ∷ past))) k.same after.nested;
      users = subst (λ i. Users c i.process (held_by i (e ∷ past))) k.same after.users;
      entered = entered-after c e past row checked fit inv follows k.among holding' (change c e past row.id runs);
    }

-- a thread that locks is of a level before that of every other holder
pub lock-before : (c : Configuration) (past : List Entry) (e : Entry) (x y : Thread) → IsChecked c → ThreadsFit c past → HoldersFit c (length past) past → Follows c past e
    → is_of x.id e ≡ true → is_lock e.event ≡ true → Has (threads c past) x → Has (threads c past) y → (x.id ≡ y.id → ⊥) → is_holder past y ≡ true
    → x.level < effective_level c past y
lock-before c past e x y checked fit inv follows mine locks here there apart holding =
    let r = lock-pays c past e x e.event checked mine (λ given is. met c past e x given fit here follows mine is) locks (mine-kind c past e x fit here mine (kind c past e follows)) in
    before-holders c past r.0 x y fit inv r.1 r.2 here there apart holding

-- only one thread has an entry
pub one-actor : (c : Configuration) (past : List Entry) (e : Entry) (x y : ThreadId) → Follows c past e → is_of x e ≡ true → is_of y e ≡ true → x ≡ y
one-actor c past e x y follows mine too = grind (arith, nat_tests)

order-rows : (c : Configuration) (e : Entry) (past : List Entry) (x y : Thread) → IsChecked c → ThreadsFit c past → HoldersFit c (length past) past → Follows c past e
    → Has (threads c past) x → Has (threads c past) y → (x.id ≡ y.id → ⊥) → stops x.id e ≡ false → stops y.id e ≡ false
    → is_holding (held_by x.id (e ∷ past)) ≡ true → is_holding (held_by y.id (e ∷ past)) ≡ true
    → Change c e past x.id → Change c e past y.id
    → (x.level < effective_level c (e ∷ past) y) ⊎ (y.level < effective_level c (e ∷ past) x)
order-rows c e past x y checked fit inv follows here there apart runs on holds too (locked mine locks) (locked own also) = absurd (apart (one-actor c past e x.id y.id follows mine own))
order-rows c e past x y checked fit inv follows here there apart runs on holds too (locked mine locks) (fewer less) =
    let first = lock-before c past e x y checked fit inv follows mine locks here there apart (less.held_before too) in
    let up = less.level y.level (row-under c (length past) past y checked fit inv there) in
    inl (omega arith)
order-rows c e past x y checked fit inv follows here there apart runs on holds too (fewer less) (locked own also) =
    let first = lock-before c past e y x checked fit inv follows own also there here (λ s. apart (sym s)) (less.held_before holds) in
    let up = less.level x.level (row-under c (length past) past x checked fit inv here) in
    inr (omega arith)
order-rows c e past x y checked fit inv follows here there apart runs on holds too (fewer less) (fewer least) =
    let up = less.level x.level (row-under c (length past) past x checked fit inv here) in
    let over = least.level y.level (row-under c (length past) past y checked fit inv there) in
    elim (inv.order x y here there apart (less.held_before holds) (least.held_before too)) [
      | inl one ↦ inl (omega arith)
      | inr two ↦ inr (omega arith)
    ]

order-entry : (c : Configuration) (e : Entry) (past : List Entry) (x y : Thread) → IsChecked c → ThreadsFit c past → ThreadsFit c (e ∷ past) → HoldersFit c (length past) past → Follows c past e
    → Has (threads c (e ∷ past)) x → Has (threads c (e ∷ past)) y → (x.id ≡ y.id → ⊥) → is_holder (e ∷ past) x ≡ true → is_holder (e ∷ past) y ≡ true
    → (x.level < effective_level c (e ∷ past) y) ⊎ (y.level < effective_level c (e ∷ past) x)
order-entry c e past x y checked fit fit' inv follows here there apart holds too =
    let n = length past in
    let a = kept c e past x.id inv follows holds in
    let b = kept c e past y.id inv follows too in
    let one : after_entry e n a.row ≡ x = same-row (threads c (e ∷ past)) (after_entry e n a.row) x fit'.distinct (row-stays c e past a.row fit a.among) here a.same in
    let two : after_entry e n b.row ≡ y = same-row (threads c (e ∷ past)) (after_entry e n b.row) y fit'.distinct (row-stays c e past b.row fit b.among) there b.same in
    let runs : stops a.row.id e ≡ false = subst (λ i. stops i e ≡ false) (sym a.same) a.runs in
    let on : stops b.row.id e ≡ false = subst (λ i. stops i e ≡ false) (sym b.same) b.runs in
    let r = order-rows c e past a.row b.row checked fit inv follows a.among b.among (λ s. apart (sym a.same ∙ s ∙ b.same)) runs on
    (subst (λ i. is_holding (held_by i (e ∷ past)) ≡ true) (sym a.same) holds) (subst (λ i. is_holding (held_by i (e ∷ past)) ≡ true) (sym b.same) too)
    (change c e past a.row.id runs) (change c e past b.row.id on) in
    subst (λ w. (x.level < effective_level c (e ∷ past) w) ⊎ (w.level < effective_level c (e ∷ past) x)) two
    (subst (λ v. (v.level < effective_level c (e ∷ past) (after_entry e n b.row)) ⊎ (b.row.level < effective_level c (e ∷ past) v)) one r)

-- The entry keeps the invariant, windows still being read at its own tick.
pub holders-entry : (c : Configuration) (e : Entry) (past : List Entry) → IsChecked c → Audited c past → Follows c past e → HoldersFit c (length past) past
    → HoldersFit c (length past) (e ∷ past)
holders-entry c e past checked audited follows inv =
    let fit = threads-fit c past checked audited in
    let fit' = threads-fit c (e ∷ past) checked (audited, follows) in
    record {
      holder = λ x holding. holder-entry c e past x checked audited fit inv follows holding (kept c e past x inv follows holding);
      order = λ x y here there apart holds too. order-entry c e past x y checked fit fit' inv follows here there apart holds too;
    }

-- at the end of a window of its level a thread has nothing left
abbrev pub WindowEnds : Configuration → Entry → List Entry → Type 0
WindowEnds c e past = (x : Thread) → Has (threads c (e ∷ past)) x → suc (length past) % period c x.level ≡ 0 → thread_rem c (length past) (e ∷ past) x ≡ 0

holder-moves : (c : Configuration) (e : Entry) (past : List Entry) (x : ThreadId) → IsChecked c → ThreadsFit c (e ∷ past) → WindowEnds c e past
    → is_holding (held_by x (e ∷ past)) ≡ true → Holder c (length past) (e ∷ past) x → Holder c (suc (length past)) (e ∷ past) x
holder-moves c e past x checked fit ends_there holding h =
    let positive = level-positive c h.row checked (fit.rows h.row h.among) in
    let none_held : suc (length past) % period c h.row.level ≡ 0 → held_by x (e ∷ past) ≡ [] =
    λ begins. let none = ends_there h.row h.among begins in
    let le = body-rem c.costs.switch (job c (length past) (e ∷ past) h.row) in
    let empty : thread_body_left c (length past) (e ∷ past) h.row ≡ 0 = omega arith in
    Rising-none c (held_by x (e ∷ past)) (subst (λ b. Rising c 1 b (held_by x (e ∷ past))) empty h.nested) in
    record {
      row = h.row;
      among = h.among;
      same = h.same;
      nested =
          elim (mod-next (length past) (period c h.row.level) positive) [
            | inl begins ↦ rw (none_held begins.0) tt
            | inr within ↦
                let same : thread_body_left c (suc (length past)) (e ∷ past) h.row ≡ thread_body_left c (length past) (e ∷ past) h.row =
                ap (body_left c.costs.switch) (job-moves c (length past) (e ∷ past) h.row within) in
                subst (λ b. Rising c 1 b (held_by x (e ∷ past))) (sym same) h.nested
          ];
      users = h.users;
      entered =
          elim (mod-next (length past) (period c h.row.level) positive) [
            | inl begins ↦ absurd (holds-some (held_by x (e ∷ past)) (none_held begins.0) holding)
            | inr within ↦ subst (λ j. c.costs.switch ≤ j.used) (sym (job-moves c (length past) (e ∷ past) h.row within)) h.entered
          ];
    }

-- no thread holds a mutex at the start of a window of its level
pub free-at-begin : (c : Configuration) (e : Entry) (past : List Entry) (x : Thread) → ThreadsFit c (e ∷ past) → WindowEnds c e past → HoldersFit c (length past) (e ∷ past)
    → Has (threads c (e ∷ past)) x → suc (length past) % period c x.level ≡ 0 → is_holder (e ∷ past) x ≡ false
free-at-begin c e past x fit ends_there inv among begins = grind (arith, nat_tests, holder-rem)

-- The next tick keeps it, where whose window ends has nothing left.
pub holders-move : (c : Configuration) (e : Entry) (past : List Entry) → IsChecked c → Audited c (e ∷ past) → WindowEnds c e past → HoldersFit c (length past) (e ∷ past)
    → HoldersFit c (suc (length past)) (e ∷ past)
holders-move c e past checked audited ends_there inv =
    record {
      holder = λ x holding. holder-moves c e past x checked (threads-fit c (e ∷ past) checked audited) ends_there holding (inv.holder x holding);
      order = inv.order;
    }

pub holders-start : (c : Configuration) → HoldersFit c 0 []
holders-start c = record { holder = λ x h. absurd (cc); order = λ x y here there apart h g. absurd (cc) }
