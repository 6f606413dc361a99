-- The numbers of every thread are in order along a list that follows the rules, after each entry and where each window begins.
use Rattle.dk_trace.proofs.Names.{ℕ, suc, ◌≡◌, ◌+◌, ◌-◌, ◌*◌, ◌%◌, ◌<◌, ◌≤◌, ◌⊎◌, inl, inr, Bool, true, false, cond, ◌&&◌, ◌||◌, leb, ltb, List, [], ◌∷◌, length, sym, ap, subst, arith, count_by, list_any, option_map_or, nat_tests, zero-mod, Configuration, period, window_start, Entry, window, is_budget_of, is_out_of, does, is_wait, stops, Thread, family, after_entry, share, new_rows, Job, job, rem, thread_rem, is_closed, chosen, Audited, IsChecked, Has}
use Rattle.std.specs.Prelude.{take}
use Rattle.dk_trace.proofs.Windows.{mod-next, window-charged, window-begins, window_start-le, spent, count-charged, count-begins}
use Rattle.dk_trace.proofs.Mains.{window_start-within, or-stays, stopped_in-stays}
use Rattle.dk_trace.proofs.Charged.{the_job}
use Rattle.dk_trace.proofs.Fair.{AllFair}
use Rattle.dk_trace.proofs.Orders.{InOrder, charge-order, fresh-order, empty-order}
use Rattle.dk_trace.proofs.Events.{new-row}
use Rattle.dk_trace.proofs.Rows.{row-of, has-next}
use Rattle.dk_trace.proofs.Entered.{ticks-of}
use Rattle.dk_trace.proofs.Silent.{Quiet, quiet-take, quiet-used, quiet-outs, fresh-not-of, fresh-quiet}
use Rattle.dk_trace.proofs.Shares.{share-same, share-new, share-whole}

abbrev pub JobOrder : ℕ → Job → Type 0
JobOrder W j = InOrder W j.share j.used j.out_ticks j.closed

-- the numbers of a thread in the window that starts at w
abbrev pub job_at : Configuration → ℕ → List Entry → Thread → Job
job_at c w past x = record {
  share = share c past x w;
  used = count_by (is_budget_of x.id) (take (length past - w) past);
  out_ticks = count_by (is_out_of x.id) (take (length past - w) past);
  closed =
      list_any (does is_wait x.id) (take (length past - w) past)
      || option_map_or (λ stop. leb w stop && ltb stop (w + period c x.level)) x.stop false;
}

-- within a window the move to the next tick changes nothing
pub job-moves : (c : Configuration) (n : ℕ) (past : List Entry) (x : Thread) → suc n % period c x.level ≡ suc (n % period c x.level)
    → job c (suc n) past x ≡ job c n past x
job-moves c n past x within = ap (λ w. job_at c w past x) (window_start-within c x.level n within)

pub stays-closed : (c : Configuration) (e : Entry) (past : List Entry) (x : Thread) → is_closed c (length past) past x ≡ true
    → is_closed c (length past) (e ∷ past) (after_entry e (length past) x) ≡ true
stays-closed c e past x shut =
    let n = length past in
    let i = x.level in
    let ends : ℕ → Bool = λ stop. leb (window_start c i n) stop && ltb stop (window_start c i n + period c i) in
    let after = after_entry e n x in
    subst (λ entries. (list_any (does is_wait x.id) entries || option_map_or ends after.stop false) ≡ true) (sym (window-charged c e past i))
    (or-stays (does is_wait x.id e) (list_any (does is_wait x.id) (window c n past i)) (option_map_or ends x.stop false) (option_map_or ends after.stop false)
    (stopped_in-stays n ends x.stop (stops x.id e)) shut)

order-at : (W s u o s' u' o' : ℕ) (k : Bool) (paid r : ℕ) → s' ≡ s → u' ≡ u → o' ≡ o
    → InOrder W s u o k × (rem W (the_job s u o k) + paid ≤ r) → InOrder W s' u' o' k × (rem W (the_job s' u' o' k) + paid ≤ r)
order-at W s u o s' u' o' k paid r a b d h = rw (a, b, d) h

-- the entry's charge to a row
pub charge-row : (c : Configuration) (p : ℕ) (e : Entry) (past : List Entry) (x : Thread) → IsChecked c → p < length c.processes
    → AllFair c (e ∷ past) → Audited c (e ∷ past) → Has (family c p past) x → JobOrder c.costs.switch (job c (length past) past x)
    → JobOrder c.costs.switch (job c (length past) (e ∷ past) (after_entry e (length past) x))
    × (thread_rem c (length past) (e ∷ past) (after_entry e (length past) x) + spent x.id e ≤ thread_rem c (length past) past x)
charge-row c p e past x checked here fair audited h order =
    let n = length past in
    let W = c.costs.switch in
    let j : Job = job c n past x in
    let k : Job = job c n (e ∷ past) (after_entry e n x) in
    let ticks = ticks-of c p past (chosen c past) e x checked here audited.0 h fair.1 audited.1.choice in
    let out = cond (is_out_of x.id e) 1 0 in
    let r = charge-order W j.share j.used j.out_ticks j.closed k.closed (spent x.id e) out order (stays-closed c e past x) ticks in
    order-at W j.share (spent x.id e + j.used) (out + j.out_ticks) k.share k.used k.out_ticks k.closed (spent x.id e) (rem W j)
    (share-same c p (window_start c x.level n) e past x checked here audited h (window_start-le c x.level n))
    (count-charged (is_budget_of x.id) c e past x.level)
    (count-charged (is_out_of x.id) c e past x.level) r

-- a new row's thread has no entry
pub new-quiet : (c : Configuration) (p : ℕ) (e : Entry) (past : List Entry) (y : Thread) → IsChecked c → p < length c.processes
    → AllFair c (e ∷ past) → Audited c (e ∷ past) → Has (new_rows c p e past) y → Quiet y.id past
new-quiet c p e past y checked here fair audited h =
    let new = new-row c p e past y audited.1 h in
    let next = new.met.next in
    let id : (record { process = p; serial = y.id.serial }) ≡ y.id = ap (λ q. record { process = q; serial = y.id.serial }) (sym new.process) in
    subst (λ z. Quiet z past) id (fresh-quiet c p y.id.serial past checked here fair.0 audited.0 (omega arith))

-- nor has it the present one
pub new-silent : (c : Configuration) (p : ℕ) (e : Entry) (past : List Entry) (y : Thread) → IsChecked c → p < length c.processes
    → AllFair c (e ∷ past) → Audited c (e ∷ past) → Has (new_rows c p e past) y → Quiet y.id (e ∷ past)
new-silent c p e past y checked here fair audited h =
    let new = new-row c p e past y audited.1 h in
    let next = new.met.next in
    let id : (record { process = p; serial = y.id.serial }) ≡ y.id = ap (λ q. record { process = q; serial = y.id.serial }) (sym new.process) in
    let k = y.id.serial in
    let beyond : length (family c p past) ≤ k = omega arith in
    subst (λ z. Quiet z (e ∷ past)) id (fresh-not-of c p k e past checked here fair audited beyond, fresh-quiet c p k past checked here fair.0 audited.0 beyond)

-- a new row has nothing yet
pub charge-new : (c : Configuration) (p : ℕ) (e : Entry) (past : List Entry) (y : Thread) → IsChecked c → p < length c.processes
    → AllFair c (e ∷ past) → Audited c (e ∷ past) → Has (new_rows c p e past) y
    → JobOrder c.costs.switch (job c (length past) (e ∷ past) y) × (thread_rem c (length past) (e ∷ past) y ≡ 0)
charge-new c p e past y checked here fair audited h =
    let n = length past in
    let quiet : Quiet y.id (e ∷ past) = new-silent c p e past y checked here fair audited h in
    let w = window_start c y.level n in
    let quiet' : Quiet y.id (window c n (e ∷ past) y.level) = quiet-take y.id (suc n - w) (e ∷ past) quiet in
    let j : Job = job c n (e ∷ past) y in
    empty-order c.costs.switch j.share j.used j.out_ticks j.closed
    (share-new c p w e past y checked here audited h (window_start-le c y.level n))
    (quiet-used y.id (window c n (e ∷ past) y.level) quiet') (quiet-outs y.id (window c n (e ∷ past) y.level) quiet')

-- after the entry every row of the process is in order
pub charged-order : (c : Configuration) (p : ℕ) (e : Entry) (past : List Entry) (x : Thread) → IsChecked c → p < length c.processes
    → AllFair c (e ∷ past) → Audited c (e ∷ past)
    → ((y : Thread) → Has (family c p past) y → JobOrder c.costs.switch (job c (length past) past y))
    → Has (family c p (e ∷ past)) x → JobOrder c.costs.switch (job c (length past) (e ∷ past) x)
charged-order c p e past x checked here fair audited orders h =
    elim (has-next e (length past) (family c p past) (new_rows c p e past) x h) [
      | inl old ↦
          subst (λ y. JobOrder c.costs.switch (job c (length past) (e ∷ past) y)) old.2
          (charge-row c p e past old.0 checked here fair audited old.1 (orders old.0 old.1)).0
      | inr new ↦ (charge-new c p e past x checked here fair audited new).0
    ]

pub begins-open : (c : Configuration) (p : ℕ) (past : List Entry) (x : Thread) → IsChecked c → p < length c.processes
    → Audited c past → Has (family c p past) x → length past % period c x.level ≡ 0 → is_closed c (length past) past x ≡ false
begins-open c p past x checked here audited h begins = grind (arith, nat_tests, window-begins, row-of)

-- where a window begins
pub begin-order : (c : Configuration) (p : ℕ) (past : List Entry) (x : Thread) → IsChecked c → p < length c.processes
    → Audited c past → Has (family c p past) x → length past % period c x.level ≡ 0
    → JobOrder c.costs.switch (job c (length past) past x) × (thread_rem c (length past) past x ≡ share c past x (length past))
begin-order c p past x checked here audited h begins =
    let n = length past in
    let W = c.costs.switch in
    let j : Job = job c n past x in
    let start : window_start c x.level n ≡ n = rw begins (omega arith) in
    let s : j.share ≡ share c past x n = ap (share c past x) start in
    let whole = share-whole c p past x checked here audited h in
    fresh-at W j.share j.used j.out_ticks j.closed (share c past x n) s
    (count-begins (is_budget_of x.id) c past x.level begins) (count-begins (is_out_of x.id) c past x.level begins)
    (begins-open c p past x checked here audited h begins) whole
  where
    fresh-at : (W s u o : ℕ) (k : Bool) (g : ℕ) → s ≡ g → u ≡ 0 → o ≡ 0 → k ≡ false → (g ≡ 0) ⊎ (2 * W + 1 ≤ g)
        → InOrder W s u o k × (rem W (the_job s u o k) ≡ g)
    fresh-at W s u o true g a b d f whole = absurd (cc)
    fresh-at W s u o false g a b d f whole = rw (a, b, d) (fresh-order W g whole, omega arith)

-- between ticks every thread is in order
pub jobs-in-order : (c : Configuration) (p : ℕ) (past : List Entry) (x : Thread) → IsChecked c → p < length c.processes
    → AllFair c past → Audited c past → Has (family c p past) x → JobOrder c.costs.switch (job c (length past) past x)
jobs-in-order c p [] x checked here fair audited h = (begin-order c p [] x checked here audited h (zero-mod (period c x.level))).0
jobs-in-order c p (e ∷ past) x checked here fair audited h =
    let n = length past in
    let positive = (row-of c p (e ∷ past) x checked here audited h).positive in
    elim (mod-next n (period c x.level) positive) [
      | inl begins ↦ (begin-order c p (e ∷ past) x checked here audited h begins.0).0
      | inr within ↦
          subst (JobOrder c.costs.switch) (sym (job-moves c n (e ∷ past) x within))
          (charged-order c p e past x checked here fair audited
          (λ y k. jobs-in-order c p past y checked here fair.0 audited.0 k) h)
    ]
