-- How an entry changes the time that a level waits for slower threads.
use Rattle.dk_bound.proofs.Names.{ℕ, ◌≡◌, ◌+◌, ◌-◌, ◌<◌, ◌≤◌, inl, inr, true, false, cond, ltb, List, ◌∷◌, length, refl, sym, ap, ◌∙◌, subst, arith, map, sum_by, cases_Bool, cases_lt, nat_tests, sum_by-append, Configuration, IsChecked, Event, Entry, payer, is_of, is_budget_of, stops, Thread, threads, family, after_entry, new_rows, thread_body_left, ends_hold, Hold, aged, held_after, held_by, innermost_left, greatest_left, thread_blocking, blocking, is_holder, own_demand, Audited, Follows, Has, sum_by-flat, sum_by-le, sum_by-less, sum_by-zero, sum_by-map, Numbered-serial, Passed, Turn, now_rem, no-demand, kind, actor-follows, budget-not, payer-none, sum_from-same, family-fits, new-numbered, ThreadsFit, threads-fit, held-mine}
use Rattle.std.proofs.Common.{Option, None}
use Rattle.dk_bound.proofs.Holding.{Rising, HoldersFit}
use Rattle.dk_bound.proofs.Nesting.{EventFits, Rising-tick, not-last, greatest-aged, greatest-filter, greatest-low, greatest-some, greatest-lock}
use Rattle.dk_bound.proofs.Locks.{Mine, by_budget, by_slack, mine-kind, met, AreMet, event-fits}
use Rattle.dk_bound.proofs.HoldersFit.{row-nested, kept, spent-free, slack-held}

-- sums over the rows after an entry
pub sum-after : (c : Configuration) (e : Entry) (past : List Entry) (f : Thread → ℕ)
    → ((p : ℕ) → p < length c.processes → (x : Thread) → Has (new_rows c p e past) x → f x ≡ 0)
    → sum_by f (threads c (e ∷ past)) ≡ sum_by (λ x. f (after_entry e (length past) x)) (threads c past)
sum-after c e past f none =
    let n = length past in
    let g : Thread → ℕ = λ x. f (after_entry e n x) in
    let each : (p : ℕ) → 0 ≤ p → p < 0 + length c.processes → sum_by f (family c p (e ∷ past)) ≡ sum_by g (family c p past) =
    λ p from under. let new = sum_by-zero f (new_rows c p e past) (none p (omega arith)) in
    let old = sum_by-map f (after_entry e n) (family c p past) in
    sum_by-append f (map (after_entry e n) (family c p past)) (new_rows c p e past) ∙ omega arith in
    sum_by-flat f (λ p. family c p (e ∷ past)) 0 (length c.processes)
    ∙ sum_from-same 0 (length c.processes) (λ p. sum_by f (family c p (e ∷ past))) (λ p. sum_by g (family c p past)) each
    ∙ sym (sum_by-flat g (λ p. family c p past) 0 (length c.processes))

-- a thread that the entry makes holds nothing
pub new-free : (c : Configuration) (e : Entry) (past : List Entry) (p : ℕ) (x : Thread) → IsChecked c → Audited c past → Follows c past e → HoldersFit c (length past) past
    → p < length c.processes → Has (new_rows c p e past) x → is_holder (e ∷ past) x ≡ false
new-free c e past p x checked audited follows inv known new =
    elim (cases_Bool (is_holder (e ∷ past) x)) [
      | inr free ↦ free
      | inl holding ↦
          let k = kept c e past x.id inv follows holding in
          let fit = threads-fit c past checked audited in
          let fits = family-fits c p past checked known audited in
          let young = Numbered-serial p (length (family c p past)) (new_rows c p e past) x (new-numbered c p past e follows) new in
          let process : k.row.id.process ≡ p = ap (λ i. i.process) k.same ∙ young.2 in
          let place : Has (family c p past) k.row = subst (λ q. Has (family c q past) k.row) process (fit.place k.row k.among) in
          let old = Numbered-serial p 0 (family c p past) k.row fits.numbered place in
          let serial : k.row.id.serial ≡ x.id.serial = ap (λ i. i.serial) k.same in
          absurd (omega (arith, young.0, old.1, serial))
    ]

free-blocking : (c : Configuration) (past : List Entry) (j : ℕ) (x : Thread) → is_holder past x ≡ false → thread_blocking c past j x ≡ 0
free-blocking c past j x free = grind (arith, nat_tests)

pub blocking-after : (c : Configuration) (e : Entry) (past : List Entry) (j : ℕ) → IsChecked c → Audited c past → Follows c past e → HoldersFit c (length past) past
    → blocking c (e ∷ past) j ≡ sum_by (λ x. thread_blocking c (e ∷ past) j (after_entry e (length past) x)) (threads c past)
blocking-after c e past j checked audited follows inv =
    sum-after c e past (thread_blocking c (e ∷ past) j)
    (λ p known x new. free-blocking c (e ∷ past) j x (new-free c e past p x checked audited follows inv known new))

-- an entry of the holder itself, on its budget: where a mutex counted, it has a tick less
pub greatest-falls : (c : Configuration) (j high : ℕ) (held : List Hold) (event : Option Event) → Rising c 1 high held
    → (innermost_left c held ≡ 1 → ends_hold event held ≡ true) → EventFits c (high - 1) (map aged held) event
    → 0 < greatest_left c j held → greatest_left c j (held_after event (map aged held)) + 1 ≤ greatest_left c j held
greatest-falls c j high held event r must fits some = grind (arith, nat_tests, not-last, greatest-low, greatest-aged, greatest-lock, Rising-tick, greatest-filter)

-- what an entry does to the time that level j waits for a thread
pub data RowStep (c : Configuration) (e : Entry) (past : List Entry) (j : ℕ) (x : Thread) : Type 0 where
  -- not its own entry, or on slack
  kept_low : is_budget_of x.id e ≡ false → thread_blocking c (e ∷ past) j (after_entry e (length past) x) ≤ thread_blocking c past j x → RowStep c e past j x
  -- not slower than level j
  fast : x.level ≤ j → thread_blocking c (e ∷ past) j (after_entry e (length past) x) ≤ thread_blocking c past j x → RowStep c e past j x
  -- slower, and it holds a mutex that counts
  counted : j < x.level → thread_blocking c (e ∷ past) j (after_entry e (length past) x) + 1 ≤ thread_blocking c past j x → RowStep c e past j x
  -- slower, and level j has nothing to do
  idle_level : own_demand c (length past) past j ≡ 0 → RowStep c e past j x

fast-none : (c : Configuration) (past : List Entry) (j : ℕ) (x : Thread) → x.level ≤ j → thread_blocking c past j x ≡ 0
fast-none c past j x le = let a : ltb j x.level ≡ false = grind (arith, nat_tests) in rw a refl

row-less : (c : Configuration) (e : Entry) (past : List Entry) (j : ℕ) (x : Thread)
    → greatest_left c j (held_by x.id (e ∷ past)) ≤ greatest_left c j (held_by x.id past)
    → thread_blocking c (e ∷ past) j (after_entry e (length past) x) ≤ thread_blocking c past j x
row-less c e past j x le = elim (cases_Bool (ltb j x.level)) [ inl slow ↦ rw slow le | inr quick ↦ rw quick (omega arith) ]

pub slow-row : (c : Configuration) (e : Entry) (past : List Entry) (j : ℕ) (x : Thread) → j < x.level
    → greatest_left c j (held_by x.id (e ∷ past)) + 1 ≤ greatest_left c j (held_by x.id past)
    → thread_blocking c (e ∷ past) j (after_entry e (length past) x) + 1 ≤ thread_blocking c past j x
slow-row c e past j x slow le = let a : ltb j x.level ≡ true = grind (arith, nat_tests) in rw a le

pub stopped-step : (c : Configuration) (e : Entry) (past : List Entry) (j : ℕ) (x : Thread) → stops x.id e ≡ true
    → thread_blocking c (e ∷ past) j (after_entry e (length past) x) ≤ thread_blocking c past j x
stopped-step c e past j x over = grind (arith, nat_tests)

-- a thread that is stopped by its own entry, slower than level j
pub stopped-counts : (c : Configuration) (e : Entry) (past : List Entry) (j : ℕ) (x : Thread) → stops x.id e ≡ true → j < x.level → 0 < greatest_left c j (held_by x.id past)
    → thread_blocking c (e ∷ past) j (after_entry e (length past) x) + 1 ≤ thread_blocking c past j x
stopped-counts c e past j x over slow some = grind (arith, nat_tests)

-- whoever is chosen at a level up to j and is slower holds a mutex that counts
pub chosen-counts : (c : Configuration) (past : List Entry) (j k high : ℕ) (x : Thread) → Turn c past k x → k ≤ j → j < x.level → Rising c 1 high (held_by x.id past)
    → 0 < greatest_left c j (held_by x.id past)
chosen-counts c past j k high x is le slow r = grind (arith, nat_tests, greatest-some)

budget-step : (c : Configuration) (e : Entry) (past : List Entry) (j k : ℕ) (x : Thread) → IsChecked c → ThreadsFit c past → Follows c past e → HoldersFit c (length past) past
    → Has (threads c past) x → is_of x.id e ≡ true → Passed c past k → Turn c past k x → is_budget_of x.id e ≡ true → RowStep c e past j x
budget-step c e past j k x checked fit follows inv among mine passed turn pays =
    elim (cases_lt j x.level) [
      | inr quick ↦
          let now = fast-none c (e ∷ past) j (after_entry e (length past) x) quick in
          fast quick (omega arith)
      | inl slow ↦
          elim (cases_lt j k) [
            | inl before ↦ idle_level (no-demand c past j (passed j before))
            | inr after ↦
                let high = thread_body_left c (length past) past x in
                let nested = row-nested c (length past) past x fit inv among in
                let some = chosen-counts c past j k high x turn after slow nested in
                elim (cases_Bool (stops x.id e)) [
                  | inl over ↦ counted slow (stopped-counts c e past j x over slow some)
                  | inr runs ↦
                      let must = (actor-follows c past e x.id follows mine).last in
                      let are : AreMet c past e x e.event = λ given is. met c past e x given fit among follows mine is in
                      let event : EventFits c (high - 1) (map aged (held_by x.id past)) e.event =
                      subst (λ b. EventFits c (high - cond b 1 0) (map aged (held_by x.id past)) e.event) pays (event-fits c e past x e.event checked mine are) in
                      let falls = greatest-falls c j high (held_by x.id past) e.event nested must event some in
                      counted slow (slow-row c e past j x slow (subst (λ hs. greatest_left c j hs + 1 ≤ greatest_left c j (held_by x.id past)) (sym (held-mine x.id e past runs mine)) falls))
                ]
          ]
    ]

slack-step : (c : Configuration) (e : Entry) (past : List Entry) (j : ℕ) (x : Thread) → IsChecked c → ThreadsFit c past → Follows c past e → HoldersFit c (length past) past
    → Has (threads c past) x → is_of x.id e ≡ true → stops x.id e ≡ false → now_rem c past x ≡ 0 → is_budget_of x.id e ≡ false
    → thread_blocking c (e ∷ past) j (after_entry e (length past) x) ≤ thread_blocking c past j x
slack-step c e past j x checked fit follows inv among mine runs none pays = grind (arith, nat_tests, spent-free, row-nested, AreMet, met, held-mine, slack-held, row-less)

unpaid-own : (c : Configuration) (e : Entry) (past : List Entry) (j : ℕ) (x : Thread) → IsChecked c → ThreadsFit c past → Follows c past e → HoldersFit c (length past) past
    → Has (threads c past) x → is_of x.id e ≡ true → is_budget_of x.id e ≡ false → Mine c past e x
    → thread_blocking c (e ∷ past) j (after_entry e (length past) x) ≤ thread_blocking c past j x
unpaid-own c e past j x checked fit follows inv among mine free is = grind (arith, nat_tests, stopped-step, slack-step)

pub other-step : (c : Configuration) (e : Entry) (past : List Entry) (j : ℕ) (x : Thread) → is_of x.id e ≡ false
    → thread_blocking c (e ∷ past) j (after_entry e (length past) x) ≤ thread_blocking c past j x
other-step c e past j x other = grind (arith, nat_tests)

-- without a tick on its budget a thread keeps nobody waiting longer
pub unpaid-row : (c : Configuration) (e : Entry) (past : List Entry) (j : ℕ) (x : Thread) → IsChecked c → ThreadsFit c past → Follows c past e → HoldersFit c (length past) past
    → Has (threads c past) x → is_budget_of x.id e ≡ false
    → thread_blocking c (e ∷ past) j (after_entry e (length past) x) ≤ thread_blocking c past j x
unpaid-row c e past j x checked fit follows inv among free =
    elim (cases_Bool (is_of x.id e)) [
      | inl mine ↦ unpaid-own c e past j x checked fit follows inv among mine free (mine-kind c past e x fit among mine (kind c past e follows))
      | inr other ↦ other-step c e past j x other
    ]

own-step : (c : Configuration) (e : Entry) (past : List Entry) (j : ℕ) (x : Thread) → IsChecked c → ThreadsFit c past → Follows c past e → HoldersFit c (length past) past
    → Has (threads c past) x → is_of x.id e ≡ true → Mine c past e x → RowStep c e past j x
own-step c e past j x checked fit follows inv among mine (by_budget k known passed turn pays) =
    budget-step c e past j k x checked fit follows inv among mine passed turn pays
own-step c e past j x checked fit follows inv among mine (by_slack none pays) = kept_low pays (unpaid-row c e past j x checked fit follows inv among pays)

pub row-step : (c : Configuration) (e : Entry) (past : List Entry) (j : ℕ) (x : Thread) → IsChecked c → ThreadsFit c past → Follows c past e → HoldersFit c (length past) past
    → Has (threads c past) x → RowStep c e past j x
row-step c e past j x checked fit follows inv among =
    elim (cases_Bool (is_of x.id e)) [
      | inl mine ↦ own-step c e past j x checked fit follows inv among mine (mine-kind c past e x fit among mine (kind c past e follows))
      | inr other ↦ kept_low (budget-not x.id e other) (other-step c e past j x other)
    ]

-- Where level j has work, no thread keeps it waiting longer than before.
pub row-falls : (c : Configuration) (e : Entry) (past : List Entry) (j : ℕ) (x : Thread) → 0 < own_demand c (length past) past j → RowStep c e past j x
    → thread_blocking c (e ∷ past) j (after_entry e (length past) x) ≤ thread_blocking c past j x
row-falls c e past j x works is = grind (arith, nat_tests)

pub row-pays : (c : Configuration) (e : Entry) (past : List Entry) (j : ℕ) (x : Thread) → 0 < own_demand c (length past) past j → j < x.level → is_budget_of x.id e ≡ true → RowStep c e past j x
    → thread_blocking c (e ∷ past) j (after_entry e (length past) x) + 1 ≤ thread_blocking c past j x
row-pays c e past j x works slow pays is = grind (arith, nat_tests)

-- Whatever the entry is, level j does not wait longer than before, where it has work.
pub blocking-falls : (c : Configuration) (e : Entry) (past : List Entry) (j : ℕ) → IsChecked c → Audited c past → Follows c past e → HoldersFit c (length past) past
    → 0 < own_demand c (length past) past j → blocking c (e ∷ past) j ≤ blocking c past j
blocking-falls c e past j checked audited follows inv works = grind (arith, nat_tests, threads-fit, blocking-after, sum_by-le, row-falls, row-step)

-- A tick on the budget of a slower thread is one tick less to wait.
pub blocking-pays : (c : Configuration) (e : Entry) (past : List Entry) (j : ℕ) (x : Thread) → IsChecked c → Audited c past → Follows c past e → HoldersFit c (length past) past
    → 0 < own_demand c (length past) past j → Has (threads c past) x → j < x.level → is_budget_of x.id e ≡ true → blocking c (e ∷ past) j + 1 ≤ blocking c past j
blocking-pays c e past j x checked audited follows inv works here slow pays =
    let fit = threads-fit c past checked audited in
    let after = blocking-after c e past j checked audited follows inv in
    let less = sum_by-less (λ y. thread_blocking c (e ∷ past) j (after_entry e (length past) y)) (thread_blocking c past j) (threads c past) x
    (λ y among. row-falls c e past j y works (row-step c e past j y checked fit follows inv among)) here
    (row-pays c e past j x works slow pays (row-step c e past j x checked fit follows inv here)) in
    omega (arith, after, less)

-- An entry that is on nobody's budget makes no level wait longer, whether it has work or not.
pub blocking-unpaid : (c : Configuration) (e : Entry) (past : List Entry) (j : ℕ) → IsChecked c → Audited c past → Follows c past e → HoldersFit c (length past) past
    → payer e.label ≡ None → blocking c (e ∷ past) j ≤ blocking c past j
blocking-unpaid c e past j checked audited follows inv none = grind (arith, nat_tests, threads-fit, blocking-after, sum_by-le, unpaid-row, payer-none)
