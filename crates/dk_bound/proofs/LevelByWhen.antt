-- By when in its window all threads of a level have had their shares: an induction along the window, as for a main.
use Rattle.dk_bound.proofs.Names.{ℕ, suc, ◌≡◌, ◌+◌, ◌-◌, ◌%◌, ◌<◌, ◌≤◌, ◌⊎◌, inl, inr, true, false, eqb, leb, ltb, List, [], ◌∷◌, length, refl, sym, ap, ◌∙◌, subst, arith, sum_by, min, Some, None, option_map_or, cases_Bool, cases_lt, nat_tests, length-drop, Configuration, IsChecked, IsAccepted, period, main_level, max_level, slots, slowest_up_to, level_ahead, NoFasterSlack, sum_from-term, Entry, Has, borrower, Thread, threads, family, Job, job, rem, thread_rem, blocking, own_demand, Audited, past_at, paid_by_kernel, sum_by-term, RowFits, ThreadsFit, threads-fit, AllFair, job_at, payer-budget_of, Passed, no-demand, Kind, paid, lent, kernel, idle, kind, Always, HasHad, AllByWhen}
use Rattle.dk_bound.proofs.Holding.{HoldersFit}
use Rattle.dk_bound.proofs.Demands.{kept, own-entry, own-moves, process_demand}
use Rattle.dk_bound.proofs.Begins.{thread_part}
use Rattle.dk_bound.proofs.Fits.{steady-fair, ready-of}
use Rattle.dk_bound.proofs.Blocking.{blocking-falls, blocking-pays}
use Rattle.dk_bound.proofs.Joint.{holders-fit, steady, kernel-counts}
use Rattle.dk_bound.proofs.Bounded.{past_at-later, window-start}
use Rattle.dk_bound.proofs.Laws.{blocks_at_most}
use Rattle.dk_bound.proofs.Ahead.{process_left, work_left, paid_to, ReachesTo, left-entry, left-moves, left-start, told-paid}
use Rattle.dk_bound.proofs.Before.{no-slack-at}
use Rattle.dk_bound.proofs.ByWhen.{goes-on, at-end, audited-drop}

-- all that is known along the window of level m
record KnownAt (c : Configuration) (m : ℕ) (past : List Entry) : Type 0 where
  checked : IsChecked c
  accepted : IsAccepted c
  audited : Audited c past
  here : m < length c.levels
  slack : NoFasterSlack c m

known-before : (c : Configuration) (m : ℕ) (e : Entry) (past : List Entry) → KnownAt c m (e ∷ past) → KnownAt c m past
known-before c m e past know =
    record { checked = know.checked; accepted = know.accepted; audited = know.audited.0; here = know.here; slack = know.slack }

fair-at : (c : Configuration) (m : ℕ) (past : List Entry) → KnownAt c m past → AllFair c past
fair-at c m past know = steady-fair c past (steady c past know.checked know.accepted know.audited)

pub slowest-low : (c : Configuration) (m : ℕ) → ReachesTo m (slowest_up_to c m)
slowest-low c m q b is =
    elim (cases_Bool (ltb m (main_level c q))) [
      | inl slow ↦ let none : None ≡ Some b = rw slow at is in absurd (cc)
      | inr reaches ↦
          elim (cases_Bool (eqb (slots c q) 0)) [
            | inl alone ↦ let some : Some (main_level c q) ≡ Some b = rw (reaches, alone) at is in let same : main_level c q ≡ b = cc in grind (arith, nat_tests)
            | inr more ↦ let some : Some (min (max_level c q) m) ≡ Some b = rw (reaches, more) at is in let same : min (max_level c q) m ≡ b = cc in omega arith
          ]
    ]

-- each thread of a level up to m is told
pub told : (c : Configuration) (m : ℕ) (y : Thread) → RowFits c y → y.level ≤ m → (b : ℕ) × (slowest_up_to c m y.id.process ≡ Some b) × (y.level ≤ b)
told c m y fits le =
    let q = y.id.process in
    let low = fits.low in
    let high = fits.high in
    let reaches : ltb m (main_level c q) ≡ false = grind (arith, nat_tests) in
    elim (cases_Bool (eqb (slots c q) 0)) [
      | inl alone ↦
          let none : slots c q ≡ 0 = grind (arith, nat_tests) in
          (main_level c q, rw (reaches, alone) refl, elim fits.child [ inl main ↦ omega arith | inr child ↦ absurd (omega arith) ])
      | inr more ↦ (min (max_level c q) m, rw (reaches, more) refl, omega arith)
    ]

abbrev left_at : Configuration → ℕ → ℕ → ℕ → List Entry → ℕ
left_at c m end n past = work_left c m (slowest_up_to c m) end n past

abbrev ShortensAt : Configuration → ℕ → Entry → List Entry → Type 0
ShortensAt c m e past = blocking c (e ∷ past) m + 1 ≤ blocking c past m + (paid_by_kernel m e + paid_to c (slowest_up_to c m) e past)

passed-low : (c : Configuration) (m k : ℕ) (past : List Entry) → 0 < own_demand c (length past) past m → Passed c past k → k ≤ m
passed-low c m k past works passed = grind (arith, nat_tests, no-demand)

shortens-at : (c : Configuration) (m : ℕ) (e : Entry) (past : List Entry) → KnownAt c m (e ∷ past) → ThreadsFit c past → HoldersFit c (length past) past
    → 0 < own_demand c (length past) past m → borrower e.label ≡ None → Kind c past e.label → ShortensAt c m e past
shortens-at c m e past know fit inv works unlent (paid k y known passed has turn pays borrows at) =
    elim (cases_lt m y.level) [
      | inl slow ↦
          let less = blocking-pays c e past m y know.checked know.audited.0 know.audited.1 inv works has slow (payer-budget_of y.id e pays) in
          omega (arith, less)
      | inr fast ↦
          let falls = blocking-falls c e past m know.checked know.audited.0 know.audited.1 inv works in
          let row = fit.rows y has in
          let t = told c m y row (omega arith) in
          let one = told-paid c t.0 (slowest_up_to c m) e past y row.known (fit.place y has) t.1 t.2 pays in
          omega (arith, falls, one)
    ]
shortens-at c m e past know fit inv works unlent (lent k y known passed has none room pays borrows at) =
    let wrong : Some y.id ≡ None = sym borrows ∙ unlent in absurd (cc)
shortens-at c m e past know fit inv works unlent (kernel k known passed some pays borrows at) =
    let falls = blocking-falls c e past m know.checked know.audited.0 know.audited.1 inv works in
    let one = kernel-counts m k e (passed-low c m k past works passed) at in
    omega (arith, falls, one)
shortens-at c m e past know fit inv works unlent (idle passed pays borrows at) =
    let none = no-demand c past m (passed m know.here) in absurd (omega arith)

-- the level is through, or what it needs fits what is left until the tick
abbrev Through : Configuration → ℕ → ℕ → ℕ → ℕ → List Entry → Type 0
Through c m end left n past = (own_demand c n past m ≡ 0) ⊎ (blocking c past m + left_at c m end n past ≤ left)

through-entry : (c : Configuration) (m end left : ℕ) (e : Entry) (past : List Entry) → KnownAt c m (e ∷ past) → Through c m end (suc left) (length past) past
    → Through c m end left (length past) (e ∷ past)
through-entry c m end left e past know (inl done) =
    let own = own-entry c m e past know.checked (fair-at c m (e ∷ past) know) know.audited in inl (omega (arith, done, own))
through-entry c m end left e past know (inr fits) =
    let n = length past in
    let own = own-entry c m e past know.checked (fair-at c m (e ∷ past) know) know.audited in
    elim (cases_lt 0 (own_demand c n past m)) [
      | inr done ↦ inl (omega (arith, done, own))
      | inl works ↦
          let fit = threads-fit c past know.checked know.audited.0 in
          let inv = holders-fit c past know.checked know.accepted know.audited.0 in
          let fair = fair-at c m (e ∷ past) know in
          let unlent = no-slack-at c m e past fit know.audited (λ k passed. let low = passed-low c m (suc k) past works passed in omega arith) know.slack in
          let less = shortens-at c m e past know fit inv works unlent (kind c past e know.audited.1) in
          let work = left-entry c m end (slowest_up_to c m) e past know.checked know.here (slowest-low c m) fair know.audited (ready-of c e past fair know.audited) in
          inr (omega (arith, less, work, fits))
    ]

through-moves : (c : Configuration) (m end left : ℕ) (e : Entry) (past : List Entry) → KnownAt c m (e ∷ past) → suc (length past) < end
    → suc (length past) % period c m ≡ suc (length past % period c m) → Through c m end left (length past) (e ∷ past) → Through c m end left (suc (length past)) (e ∷ past)
through-moves c m end left e past know early within (inl done) = inl (own-moves c m (length past) (e ∷ past) within ∙ done)
through-moves c m end left e past know early within (inr fits) =
    let work = left-moves c m end (slowest_up_to c m) e past know.checked know.here (slowest-low c m) (fair-at c m (e ∷ past) know) know.audited early in
    inr (omega (arith, work, fits))

through-starts : (c : Configuration) (m f : ℕ) (past : List Entry) → KnownAt c m past → length past % period c m ≡ 0 → 0 < f → level_ahead c m f ≤ f
    → Through c m (length past + f) f (length past) past
through-starts c m f past know begins some room =
    let start = left-start c m f (slowest_up_to c m) past know.checked know.here (slowest-low c m) (fair-at c m past know) know.audited begins some in
    let most = blocks_at_most c past know.checked know.accepted know.audited m know.here in
    inr (omega (arith, start, most, room))

along : (c : Configuration) (m s f left : ℕ) (past : List Entry) → KnownAt c m past → s % period c m ≡ 0 → f ≤ period c m → level_ahead c m f ≤ f
    → s ≤ length past → length past + left ≡ s + f → 0 < left → Through c m (s + f) left (length past) past
along c m s f left [] know begins within room from at some =
    let zero_s : s ≡ 0 = omega arith in
    let same : left ≡ f = omega arith in
    subst (λ w. Through c m (w + f) left 0 []) (sym zero_s)
    (subst (λ l. Through c m (0 + f) l 0 []) (sym same)
    (through-starts c m f [] know (subst (λ w. w % period c m ≡ 0) zero_s begins) (omega arith) room))
along c m s f left (e ∷ past) know begins within room from at some =
    let n = length past in
    elim (cases_lt n s) [
      | inl new ↦
          let start : s ≡ suc n = omega arith in
          let same : left ≡ f = omega arith in
          subst (λ w. Through c m (w + f) left (suc n) (e ∷ past)) (sym start)
          (subst (λ l. Through c m (suc n + f) l (suc n) (e ∷ past)) (sym same)
          (through-starts c m f (e ∷ past) know (subst (λ w. w % period c m ≡ 0) start begins) (omega arith) room))
      | inr old ↦
          let before = along c m s f (suc left) past (known-before c m e past know) begins within room (omega arith) (omega arith) (omega arith) in
          through-moves c m (s + f) left e past know (omega arith) (goes-on c m s n (know.checked.positive m know.here) begins (omega arith) (omega arith))
          (through-entry c m (s + f) left e past know before)
    ]

-- then no thread of the level has anything left
rem-through : (c : Configuration) (m end n : ℕ) (past : List Entry) (x : Thread) → ThreadsFit c past → Has (threads c past) x → x.level ≡ m → Through c m end 0 n past
    → thread_rem c n past x ≡ 0
rem-through c m end n past x fit among level (inl done) =
    let term = sum_by-term (kept (λ i. eqb i m) (thread_rem c n past)) (threads c past) x among in
    let at : eqb x.level m ≡ true = grind (arith, nat_tests) in
    let term' : thread_rem c n past x ≤ sum_by (kept (λ i. eqb i m) (thread_rem c n past)) (threads c past) = rw at at term in
    omega (arith, term', done)
rem-through c m end n past x fit among level (inr fits) =
    let q = x.id.process in
    let row = fit.rows x among in
    let here = row.known in
    let t = told c m x row (omega arith) in
    let fast : leb x.level t.0 ≡ true = (let le = t.2 in grind (arith, nat_tests)) in
    let term = sum_by-term (thread_part c t.0 n past) (family c q past) x (fit.place x among) in
    let term' : thread_rem c n past x ≤ process_demand c q t.0 n past = (let part = rw fast at term in omega (arith, part)) in
    let mine : option_map_or (process_left c end n past q) (slowest_up_to c m q) 0 ≡ process_left c end n past q t.0 =
    ap (λ o. option_map_or (process_left c end n past q) o 0) t.1 in
    let whole = sum_from-term 0 (length c.processes) (λ z. option_map_or (process_left c end n past z) (slowest_up_to c m z) 0) q (omega arith) (omega arith) in
    omega (arith, fits, term', mine, whole)

-- where nothing is left, all of the share was had, or the job is closed
had-of-rem : (W k : ℕ) (j : Job) → rem W j ≡ 0 → (k ≤ j.used) ⊎ (j.share < k) ⊎ (j.closed ≡ true)
had-of-rem W k j none = grind (arith, nat_tests)

at-last : (c : Configuration) (s f k : ℕ) (past : List Entry) (x : Thread) → KnownAt c x.level past → Has (threads c past) x → s % period c x.level ≡ 0 → f ≤ period c x.level
    → level_ahead c x.level f ≤ f → length past ≡ s + f → 0 < f → HasHad c past x s k
at-last c s f k [] x know among begins within room at some = absurd (omega arith)
at-last c s f k (e ∷ past) x know among begins within room at some =
    let n = length past in
    let m = x.level in
    let all = e ∷ past in
    let before = along c m s f 1 past (known-before c m e past know) begins within room (omega arith) (omega arith) (omega arith) in
    let none = rem-through c m (s + f) n all x (threads-fit c all know.checked know.audited) among refl (through-entry c m (s + f) 0 e past know before) in
    let start = window-start c m s n begins (omega arith) (omega arith) in
    let none' : rem c.costs.switch (job c s all x) ≡ 0 = subst (λ w. rem c.costs.switch (job_at c w all x) ≡ 0) start none in
    subst (λ es. (k ≤ (job c s es x).used) ⊎ ((job c s es x).share < k) ⊎ ((job c s es x).closed ≡ true)) (sym (past_at-later all (s + period c m) (omega arith)))
    (had-of-rem c.costs.switch k (job c s all x) none')

pub all_by_when : Always AllByWhen
all_by_when c past checked accepted audited x s f k among begins le enough =
    let early = past_at past (s + f) in
    let audited' = audited-drop c (length past - (s + f)) past audited in
    let size : length early ≡ s + f = length-drop (length past - (s + f)) past ∙ omega arith in
    let row = (threads-fit c early checked audited').rows x among in
    let known : x.level < length c.levels = (let a = row.high in let b = checked.reaches x.id.process row.known in omega arith) in
    elim enough.room [
      | inl whole ↦
          at-end c x.id.process s k early x checked accepted audited' row.known begins (size ∙ ap (λ w. s + w) whole) among refl
      | inr room ↦
          let fits = room.1 in
          at-last c s f k early x (record { checked = checked; accepted = accepted; audited = audited'; here = known; slack = room.0 }) among begins enough.within fits size enough.some
    ]
