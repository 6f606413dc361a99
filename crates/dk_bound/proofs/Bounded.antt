-- In no window, whole or not, does a thread have more than its share, or the kernel more than its own work needs.
use Rattle.dk_bound.proofs.Names.{ℕ, suc, ◌≡◌, ◌+◌, ◌-◌, ◌%◌, ◌<◌, ◌≤◌, inl, inr, List, [], ◌∷◌, length, drop, take, sym, ap, ◌∙◌, subst, arith, count_by, cases_lt, Configuration, IsChecked, period, release, window_start, Entry, Has, window, is_budget_of, is_kernel_at, Thread, family, after_entry, share, new_rows, job, Audited, past_at, job_from, kernel_from, ThreadsBounded, KernelBounded, Bounded, has-flat, row-of, has-next, AllFair, job_at, charged-order, jobs-in-order, nat_tests}
use Rattle.dk_bound.proofs.Fits.{ready-of}
use Rattle.dk_bound.proofs.Received.{past_at-earlier, share-then, share-stop, unmade-used, kernel-charged, kernel-within}

-- the past of a tick that has not come is the past so far
pub past_at-later : (past : List Entry) (u : ℕ) → length past ≤ u → past_at past u ≡ past
past_at-later past u le = let none : length past - u ≡ 0 = omega arith in ap (λ k. drop k past) none

-- a window that begins later has no entries yet
pub window-later : (c : Configuration) (past : List Entry) (i s : ℕ) → s % period c i ≡ 0 → length past ≤ s
    → window c s (past_at past (s + period c i)) i ≡ []
window-later c past i s begins late = grind (arith, nat_tests)

-- the window that a tick lies in
pub window-start : (c : Configuration) (i s n : ℕ) → s % period c i ≡ 0 → s ≤ n → n < s + period c i → window_start c i n ≡ window_start c i s
window-start c i s n begins from under = grind (arith, nat_tests)

-- in the window that the last tick lies in
running : (c : Configuration) (p s : ℕ) (e : Entry) (past : List Entry) (x : Thread) → IsChecked c → p < length c.processes
    → AllFair c (e ∷ past) → Audited c (e ∷ past) → Has (family c p (e ∷ past)) x → s % period c x.level ≡ 0
    → s ≤ length past → length past < s + period c x.level → (job_from c (e ∷ past) x s).used ≤ share c (past_at (e ∷ past) s) x s
running c p s e past x checked here fair audited h begins from under =
    let n = length past in
    let all = e ∷ past in
    let now : past_at all (s + period c x.level) ≡ all = past_at-later all (s + period c x.level) (omega arith) in
    let order = charged-order c p e past x checked here fair audited (λ y k. jobs-in-order c p past y checked here fair.0 audited.0 k) h in
    let room : (job c n all x).used ≤ (job c n all x).share = (let r = order.room in omega arith) in
    let start = window-start c x.level s n begins from under in
    let room' : (job c s all x).used ≤ (job c s all x).share = subst (λ w. (job_at c w all x).used ≤ (job_at c w all x).share) start room in
    let begin : window_start c x.level s ≡ s = rw begins (omega arith) in
    let whole : (job c s all x).share ≡ share c (past_at all s) x s =
    ap (share c all x) begin ∙ share-then c p s all x checked here audited (row-of c p all x checked here audited h).process (omega arith) in
    subst (λ es. (job c s es x).used ≤ share c (past_at all s) x s) (sym now) (omega (arith, room', whole))

-- in a window that has ended
ended : (c : Configuration) (p s : ℕ) (e : Entry) (past : List Entry) (y : Thread) → IsChecked c → p < length c.processes
    → Audited c past → Has (family c p past) y → s + period c y.level ≤ length past
    → (job_from c past y s).used ≤ share c (past_at past s) y s
    → (job_from c (e ∷ past) (after_entry e (length past) y) s).used ≤ share c (past_at (e ∷ past) s) (after_entry e (length past) y) s
ended c p s e past y checked here audited h over before =
    let n = length past in
    let positive = (row-of c p past y checked here audited h).positive in
    let entries : (job_from c (e ∷ past) (after_entry e n y) s).used ≡ (job_from c past y s).used =
    ap (λ es. (job c s es y).used) (past_at-earlier e past (s + period c y.level) over) in
    let whole : share c (past_at (e ∷ past) s) (after_entry e n y) s ≡ share c (past_at past s) y s =
    share-stop c n s (past_at (e ∷ past) s) e y (omega arith) ∙ ap (λ es. share c es y s) (past_at-earlier e past s (omega arith)) in
    omega (arith, before, entries, whole)

bounded-of : (c : Configuration) (p s : ℕ) (past : List Entry) (x : Thread) → IsChecked c → p < length c.processes
    → AllFair c past → Audited c past → Has (family c p past) x → s % period c x.level ≡ 0
    → s < length past → (job_from c past x s).used ≤ share c (past_at past s) x s
bounded-of c p s [] x checked here fair audited h begins early = absurd (omega arith)
bounded-of c p s (e ∷ past) x checked here fair audited h begins early =
    let n = length past in
    elim (cases_lt n (s + period c x.level)) [
      | inl now ↦ running c p s e past x checked here fair audited h begins (omega arith) now
      | inr over ↦
          elim (has-next e (length past) (family c p past) (new_rows c p e past) x h) [
            | inl old ↦
                let y = old.0 in
                let level : x.level ≡ y.level = sym (ap (λ z. z.level) old.2) in
                let begins' : s % period c y.level ≡ 0 = subst (λ i. s % period c i ≡ 0) level begins in
                let over' : s + period c y.level ≤ n = subst (λ i. s + period c i ≤ n) level over in
                let positive = (row-of c p past y checked here audited.0 old.1).positive in
                let before = bounded-of c p s past y checked here fair.0 audited.0 old.1 begins' (omega arith) in
                subst (λ z. (job_from c (e ∷ past) z s).used ≤ share c (past_at (e ∷ past) s) z s) old.2 (ended c p s e past y checked here audited.0 old.1 over' before)
            | inr new ↦ let none = unmade-used c p s e past x checked here fair audited new over in omega (arith, none)
          ]
    ]

threads-bounded : (c : Configuration) (past : List Entry) → IsChecked c → AllFair c past → Audited c past → ThreadsBounded c past
threads-bounded c past checked fair audited x s has begins =
    elim (cases_lt s (length past)) [
      | inl early ↦
          let r = has-flat (λ p. family c p past) 0 (length c.processes) x has in
          bounded-of c r.0 s past x checked (omega (arith, r.1)) fair audited r.2 begins early
      | inr late ↦
          let none : (job_from c past x s).used ≡ 0 = ap (count_by (is_budget_of x.id)) (window-later c past x.level s begins late) in
          omega (arith, none)
    ]

kernel-of : (c : Configuration) (i s : ℕ) (past : List Entry) → IsChecked c → i < length c.levels → AllFair c past → Audited c past
    → s % period c i ≡ 0 → s < length past → kernel_from c past i s ≤ release c i
kernel-of c i s [] checked known fair audited begins early = absurd (omega arith)
kernel-of c i s (e ∷ past) checked known fair audited begins early =
    let n = length past in
    let P = period c i in
    let positive = checked.positive i known in
    elim (cases_lt n (s + P)) [
      | inl now ↦
          let charged = kernel-charged c i e past (ready-of c e past fair audited) (kernel-within c i past positive fair.0 audited.0) in
          let start = window-start c i s n begins (omega arith) now in
          let here : count_by (is_kernel_at i) (window c s (e ∷ past) i) ≤ release c i =
          subst (λ w. count_by (is_kernel_at i) (take (suc n - w) (e ∷ past)) ≤ release c i) start charged in
          subst (λ es. count_by (is_kernel_at i) (window c s es i) ≤ release c i) (sym (past_at-later (e ∷ past) (s + P) (omega arith))) here
      | inr ended ↦
          subst (λ es. count_by (is_kernel_at i) (window c s es i) ≤ release c i) (sym (past_at-earlier e past (s + P) ended))
          (kernel-of c i s past checked known fair.0 audited.0 begins (omega arith))
    ]

kernel-bounded : (c : Configuration) (past : List Entry) → IsChecked c → AllFair c past → Audited c past → KernelBounded c past
kernel-bounded c past checked fair audited i s known begins =
    elim (cases_lt s (length past)) [
      | inl early ↦ kernel-of c i s past checked known fair audited begins early
      | inr late ↦
          let none : kernel_from c past i s ≡ 0 = ap (count_by (is_kernel_at i)) (window-later c past i s begins late) in
          omega (arith, none)
    ]

pub bounded : (c : Configuration) (past : List Entry) → IsChecked c → AllFair c past → Audited c past → Bounded c past
bounded c past checked fair audited = (threads-bounded c past checked fair audited, kernel-bounded c past checked fair audited)
