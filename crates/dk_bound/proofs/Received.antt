-- Each thread has its share of each window that has ended, or was closed and has paid its way out; the kernel has its own ticks.
use Rattle.dk_bound.proofs.Names.{ℕ, suc, ◌≡◌, ◌+◌, ◌-◌, ◌%◌, ◌<◌, ◌≤◌, ◌⊎◌, inl, inr, Bool, true, false, ◌&&◌, ◌||◌, eqb, leb, ltb, IsTrue, List, [], ◌∷◌, length, drop, refl, sym, ap, ◌∙◌, subst, arith, sum_by, count_by, Option, list_any, option_or, option_map_or, then_some, cases_Bool, cases_lt, nat_tests, zero-mod, Configuration, period, release, window_start, window_end, Entry, window, is_kernel_at, does, is_wait, stops, Thread, family, threads, after_entry, is_void, share, new_rows, Job, job, rem, thread_rem, Audited, past_at, job_from, HadShare, ThreadsReceived, KernelReceived, Received, mod-next, count-charged, count-begins, kernel_paid, one_or_none, pays, the_job, lent_at-children, stopped_before-same, window_start-within, IsChecked, IsAccepted, AllFair, Has, has-flat, flat-has, sum_by-term, InOrder, rem-shut, new-row, row-of, has-next, window_end-above, family-some, lent-same, child-same_at, share-child, quiet-drop, quiet-take, quiet-used, job_at, charged-order, jobs-in-order, new-quiet}
use Rattle.std.specs.Prelude.{take, not}
use Rattle.dk_trace.proofs.Families.{lent}
use Rattle.dk_bound.proofs.Demands.{KernelReady, kept}
use Rattle.dk_bound.proofs.Fits.{Steady, steady-fair, ready-of, ends-done}

-- the past at a tick that is over does not change
pub past_at-earlier : (e : Entry) (past : List Entry) (u : ℕ) → u ≤ length past → past_at (e ∷ past) u ≡ past_at past u
past_at-earlier e past u le = let step : suc (length past) - u ≡ suc (length past - u) = omega arith in ap (λ k. drop k (e ∷ past)) step

pub past_at-now : (past : List Entry) → past_at past (length past) ≡ past
past_at-now past = let none : length past - length past ≡ 0 = omega arith in ap (λ k. drop k past) none

-- what is lent in a window is what was lent when it began
pub lent-then : (c : Configuration) (p s : ℕ) (past : List Entry) → IsChecked c → p < length c.processes → Audited c past
    → s ≤ length past → lent c p past s ≡ lent c p (past_at past s) s
lent-then c p s [] checked here audited le = grind (arith, nat_tests, lent, lent-same, past_at-earlier, past_at-now)
lent-then c p s (e ∷ past) checked here audited le = grind (arith, nat_tests, lent, lent-same, past_at-earlier, past_at-now, lent-then c p s past)

pub share-then : (c : Configuration) (p s : ℕ) (past : List Entry) (x : Thread) → IsChecked c → p < length c.processes → Audited c past
    → x.id.process ≡ p → s ≤ length past → share c past x s ≡ share c (past_at past s) x s
share-then c p s past x checked here audited of_p le = grind (arith, nat_tests, lent_at-children, lent-then)

-- a later stop changes neither a share nor whether a job was closed
pub share-stop : (c : Configuration) (n s : ℕ) (past : List Entry) (e : Entry) (x : Thread) → s ≤ n
    → share c past (after_entry e n x) s ≡ share c past x s
share-stop c n s past e x le = grind (arith, nat_tests, stopped_before-same, child-same_at)

stopped-same : (n w u : ℕ) (stop : Option ℕ) (b : Bool) → u ≤ n
    → option_map_or (λ t. leb w t && ltb t u) (option_or stop (then_some b n)) false ≡ option_map_or (λ t. leb w t && ltb t u) stop false
stopped-same n w u stop b le = grind (arith, nat_tests)

abbrev pub HadJob : Configuration → Job → ℕ → Type 0
HadJob c end whole = (end.used ≡ whole) ⊎ (IsTrue end.closed × (0 < end.used → end.out_ticks ≡ c.costs.switch))

had-same : (c : Configuration) (share share' used outs whole whole' : ℕ) (closed closed' : Bool) → whole' ≡ whole → closed' ≡ closed
    → HadJob c (the_job share used outs closed) whole → HadJob c (the_job share' used outs closed') whole'
had-same c share share' used outs whole whole' closed closed' a b (inl had) = inl (had ∙ sym a)
had-same c share share' used outs whole whole' closed closed' a b (inr shut) = inr (subst IsTrue (sym b) shut.0, shut.1)

-- what a thread had of a window that ended earlier does not change
pub had-later : (c : Configuration) (s : ℕ) (e : Entry) (past : List Entry) (x : Thread) → s % period c x.level ≡ 0
    → s + period c x.level ≤ length past → HadShare c past x s → HadShare c (e ∷ past) (after_entry e (length past) x) s
had-later c s e past x begins le had =
    let n = length past in
    let P = period c x.level in
    let y = after_entry e n x in
    let end = past_at-earlier e past (s + P) le in
    let start = past_at-earlier e past s (omega arith) in
    let was : Job = job c s (past_at past (s + P)) x in
    let is : Job = job c s (past_at past (s + P)) y in
    let from : window_start c x.level s ≡ s = rw begins (omega arith) in
    let room : window_end c x.level s ≤ n = omega arith in
    let shut : is.closed ≡ was.closed =
    ap (λ b. list_any (does is_wait x.id) (window c s (past_at past (s + P)) x.level) || b)
    (stopped-same n (window_start c x.level s) (window_end c x.level s) x.stop (stops x.id e) room) in
    let whole : share c (past_at past s) y s ≡ share c (past_at past s) x s = share-stop c n s (past_at past s) e x (omega arith) in
    subst (λ es. HadJob c (job c s es y) (share c (past_at (e ∷ past) s) y s)) (sym end)
    (subst (λ es. HadJob c is (share c es y s)) (sym start)
    (had-same c was.share is.share was.used was.out_ticks (share c (past_at past s) x s) (share c (past_at past s) y s) was.closed is.closed whole shut had))

-- where nothing is left a job had its share, or was closed and paid its way out
pub had-all : (c : Configuration) (share used outs : ℕ) (closed : Bool) → InOrder c.costs.switch share used outs closed
    → rem c.costs.switch (the_job share used outs closed) ≡ 0 → HadJob c (the_job share used outs closed) share
had-all c whole used outs false order none = let room = order.room in inl (omega arith)
had-all c whole used outs true order none =
    inr (refl, λ some. let left = rem-shut c.costs.switch whole used outs some in let few = order.few in omega arith)

-- the tick before a window begins is the last of the window before
pub last-tick : (n s P : ℕ) → 0 < P → s % P ≡ 0 → s + P ≡ suc n → (suc (n % P) ≡ P) × (n - n % P ≡ s)
last-tick n s P positive begins is = grind (arith, nat_tests)

ended : (c : Configuration) (p s : ℕ) (e : Entry) (past : List Entry) (x : Thread) → IsChecked c → IsAccepted c → p < length c.processes
    → Steady c (e ∷ past) → Audited c (e ∷ past) → Has (family c p (e ∷ past)) x
    → s % period c x.level ≡ 0 → s + period c x.level ≡ suc (length past) → HadShare c (e ∷ past) x s
ended c p s e past x checked accepted here steady audited h begins is =
    let n = length past in
    let P = period c x.level in
    let W = c.costs.switch in
    let row = row-of c p (e ∷ past) x checked here audited h in
    let last = last-tick n s P row.positive begins is in
    let from : window_start c x.level s ≡ s = rw begins (omega arith) in
    let same : window_start c x.level s ≡ window_start c x.level n = from ∙ sym last.1 in
    let j : Job = job c n (e ∷ past) x in
    let done = ends-done c x.level e past checked accepted steady audited row.known last.0 in
    let among : Has (threads c (e ∷ past)) x = flat-has (λ q. family c q (e ∷ past)) 0 (length c.processes) p x (omega arith) (omega arith) h in
    let term = sum_by-term (kept (λ i. eqb i x.level) (thread_rem c n (e ∷ past))) (threads c (e ∷ past)) x among in
    let at : eqb x.level x.level ≡ true = grind (arith, nat_tests) in
    let term' : thread_rem c n (e ∷ past) x ≤ sum_by (kept (λ i. eqb i x.level) (thread_rem c n (e ∷ past))) (threads c (e ∷ past)) = rw at at term in
    let none : rem W j ≡ 0 = omega (arith, term', done) in
    let fair = steady-fair c (e ∷ past) steady in
    let order = charged-order c p e past x checked here fair audited (λ y k. jobs-in-order c p past y checked here fair.0 audited.0 k) h in
    let had : HadJob c j j.share = had-all c j.share j.used j.out_ticks j.closed order none in
    let now : past_at (e ∷ past) (s + P) ≡ e ∷ past = ap (past_at (e ∷ past)) is ∙ past_at-now (e ∷ past) in
    let whole : j.share ≡ share c (past_at (e ∷ past) s) x s =
    ap (share c (e ∷ past) x) last.1 ∙ share-then c p s (e ∷ past) x checked here audited row.process (omega arith) in
    let had' : HadJob c j (share c (past_at (e ∷ past) s) x s) = subst (HadJob c j) whole had in
    let jobs : job c n (e ∷ past) x ≡ job c s (e ∷ past) x = ap (λ w. job_at c w (e ∷ past) x) (sym same) in
    let had'' : HadJob c (job c s (e ∷ past) x) (share c (past_at (e ∷ past) s) x s) = subst (λ k. HadJob c k (share c (past_at (e ∷ past) s) x s)) jobs had' in
    subst (λ es. HadJob c (job c s es x) (share c (past_at (e ∷ past) s) x s)) (sym now) had''

-- of a window that ended before it was made a thread had nothing
pub unmade-used : (c : Configuration) (p s : ℕ) (e : Entry) (past : List Entry) (x : Thread) → IsChecked c → p < length c.processes
    → AllFair c (e ∷ past) → Audited c (e ∷ past) → Has (new_rows c p e past) x
    → s + period c x.level ≤ length past → (job_from c (e ∷ past) x s).used ≡ 0
unmade-used c p s e past x checked here fair audited new le = grind (arith, nat_tests, quiet-drop, new-quiet, quiet-take, quiet-used, past_at-earlier)

-- and it had no share of it
unmade : (c : Configuration) (p s : ℕ) (e : Entry) (past : List Entry) (x : Thread) → IsChecked c → p < length c.processes
    → AllFair c (e ∷ past) → Audited c (e ∷ past) → Has (family c p (e ∷ past)) x → Has (new_rows c p e past) x
    → s + period c x.level ≤ length past → HadShare c (e ∷ past) x s
unmade c p s e past x checked here fair audited h new le =
    let row = row-of c p (e ∷ past) x checked here audited h in
    let made = new-row c p e past x audited.1 new in
    let start = made.start in
    let up = window_end-above c x.level (length past) row.positive in
    let later : leb x.start s ≡ false = grind (arith, nat_tests) in
    let next = made.met.next in
    let some = family-some c p past in
    let child : eqb x.id.serial 0 ≡ false = grind (arith, nat_tests) in
    let none : share c (past_at (e ∷ past) s) x s ≡ 0 =
    share-child c (past_at (e ∷ past) s) x s child ∙ (elim (cases_Bool (not (is_void x))) [ inl a ↦ rw (a, later) refl | inr b ↦ rw b refl ]) in
    inl (unmade-used c p s e past x checked here fair audited new le ∙ sym none)

received-of : (c : Configuration) (p s : ℕ) (past : List Entry) (x : Thread) → IsChecked c → IsAccepted c → p < length c.processes
    → Steady c past → Audited c past → Has (family c p past) x
    → s % period c x.level ≡ 0 → s + period c x.level ≤ length past → HadShare c past x s
received-of c p s [] x checked accepted here steady audited h begins le =
    let row = row-of c p [] x checked here audited h in let positive = row.positive in absurd (omega arith)
received-of c p s (e ∷ past) x checked accepted here steady audited h begins le =
    let n = length past in
    elim (cases_lt n (s + period c x.level)) [
      | inl now ↦ ended c p s e past x checked accepted here steady audited h begins (omega arith)
      | inr earlier ↦
          elim (has-next e (length past) (family c p past) (new_rows c p e past) x h) [
            | inl old ↦
                let y = old.0 in
                let level : x.level ≡ y.level = sym (ap (λ z. z.level) old.2) in
                let begins' : s % period c y.level ≡ 0 = subst (λ i. s % period c i ≡ 0) level begins in
                let earlier' : s + period c y.level ≤ n = subst (λ i. s + period c i ≤ n) level earlier in
                let before = received-of c p s past y checked accepted here steady.0 audited.0 old.1 begins' earlier' in
                subst (λ z. HadShare c (e ∷ past) z s) old.2 (had-later c s e past y begins' earlier' before)
            | inr new ↦ unmade c p s e past x checked here (steady-fair c (e ∷ past) steady) audited h new earlier
          ]
    ]

pub threads-received : (c : Configuration) (past : List Entry) → IsChecked c → IsAccepted c → Steady c past → Audited c past → ThreadsReceived c past
threads-received c past checked accepted steady audited x s k begins le =
    let r = has-flat (λ p. family c p past) 0 (length c.processes) x k in
    received-of c r.0 s past x checked accepted (omega (arith, r.1)) steady audited r.2 begins le

-- the kernel has no more ticks at a level than its own work needs there
pub kernel-charged : (c : Configuration) (i : ℕ) (e : Entry) (past : List Entry) → KernelReady c e past
    → count_by (is_kernel_at i) (window c (length past) past i) ≤ release c i
    → count_by (is_kernel_at i) (window c (length past) (e ∷ past) i) ≤ release c i
kernel-charged c i e past ready before = grind (arith, nat_tests, count-charged, one_or_none, kernel_paid, pays)

pub kernel-within : (c : Configuration) (i : ℕ) (past : List Entry) → 0 < period c i → AllFair c past → Audited c past
    → count_by (is_kernel_at i) (window c (length past) past i) ≤ release c i
kernel-within c i [] positive fair audited = let none = count-begins (is_kernel_at i) c [] i (zero-mod (period c i)) in omega (arith, none)
kernel-within c i (e ∷ past) positive fair audited =
    let n = length past in
    elim (mod-next n (period c i) positive) [
      | inl begins ↦ let none = count-begins (is_kernel_at i) c (e ∷ past) i begins.0 in omega (arith, none)
      | inr within ↦
          let charged = kernel-charged c i e past (ready-of c e past fair audited) (kernel-within c i past positive fair.0 audited.0) in
          let same : window_start c i (suc n) ≡ window_start c i n = window_start-within c i n within in
          subst (λ w. count_by (is_kernel_at i) (take (suc n - w) (e ∷ past)) ≤ release c i) (sym same) charged
    ]

pub kernel-received : (c : Configuration) (past : List Entry) → IsChecked c → IsAccepted c → Steady c past → Audited c past → KernelReceived c past
kernel-received c [] checked accepted steady audited i s known begins le = let positive = checked.positive i known in absurd (omega arith)
kernel-received c (e ∷ past) checked accepted steady audited i s known begins le =
    let n = length past in
    let P = period c i in
    let positive = checked.positive i known in
    elim (cases_lt n (s + P)) [
      | inr earlier ↦
          subst (λ es. count_by (is_kernel_at i) (window c s es i) ≡ release c i) (sym (past_at-earlier e past (s + P) earlier))
          (kernel-received c past checked accepted steady.0 audited.0 i s known begins earlier)
      | inl now ↦
          let is : s + P ≡ suc n = omega arith in
          let last = last-tick n s P positive begins is in
          let from : window_start c i s ≡ s = rw begins (omega arith) in
          let same : window_start c i n ≡ window_start c i s = last.1 ∙ sym from in
          let done = ends-done c i e past checked accepted steady audited known last.0 in
          let fair = steady-fair c (e ∷ past) steady in
          let charged = kernel-charged c i e past (ready-of c e past fair audited) (kernel-within c i past positive fair.0 audited.0) in
          let whole : count_by (is_kernel_at i) (window c n (e ∷ past) i) ≡ release c i = omega (arith, done, charged) in
          let end : past_at (e ∷ past) (s + P) ≡ e ∷ past = ap (past_at (e ∷ past)) is ∙ past_at-now (e ∷ past) in
          subst (λ es. count_by (is_kernel_at i) (window c s es i) ≡ release c i) (sym end)
          (subst (λ w. count_by (is_kernel_at i) (take (suc n - w) (e ∷ past)) ≡ release c i) same whole)
    ]

pub received : (c : Configuration) (past : List Entry) → IsChecked c → IsAccepted c → Steady c past → Audited c past → Received c past
received c past checked accepted steady audited =
    (threads-received c past checked accepted steady audited, kernel-received c past checked accepted steady audited)
