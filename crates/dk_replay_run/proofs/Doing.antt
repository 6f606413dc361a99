-- The ticks of a main that has the processor to itself and may hold a mutex.
use Rattle.dk_alone.proofs.Names.{ℕ, zero, suc, ◌≡◌, ◌+◌, ◌-◌, ◌%◌, ◌<◌, ◌≤◌, inl, inr, Bool, true, false, cond, eqb, ltb, not, ◌&&◌, List, [], ◌∷◌, ◌++◌, length, map, Option, Some, None, refl, sym, ap, ◌∙◌, subst, arith, nat_tests, Configuration, IsChecked, period, main_level, budget, longest_hold, is_user, Phase, Label, Event, Entry, is_budget_of, is_out_of, Hold, aged, held_after, held_by, innermost_left, Job, body_left, job, thread_body_left, phase, rem, same-job, the_job, job-charged, main_id, main_row, Context, Outcome, KernelCall, body_tick, reg, or_refused, done, lock_refusal, unlock_refusal, held-quiet, World, breaks_hold, quiet_entry, alone}
use Rattle.dk_cpu.specs.Machine.{ran}
use Rattle.dk_cpu.specs.State.{replied}
use Rattle.dk_profile.specs.Faults.{body}
use Rattle.dk_profile.specs.declared.jobs.HeldMutex.{HeldMutex}
use Rattle.dk_alone.proofs.Own.{Own, after, same-own}
use Rattle.dk_alone.proofs.Same.{lock_with, unlock_with}
use Rattle.dk_replay_run.specs.Profiles.{IsFree}
use Rattle.dk_replay_run.proofs.Turns as turns
use Rattle.dk_replay_run.proofs.Turns.{At, effect_of, here, same-self}
use Rattle.dk_replay_run.proofs.Moves.{IsMove, Moves, Tells, last_tick}

-- what a past says of a main in the midst of its window
abbrev pub busy : List Entry → ℕ → ℕ → List Hold → Own
busy es share used held = record { entries = es; job = the_job share used 0 false; held = held; ended = false }

-- what the kernel counts of a mutex that the job took with so many ticks
abbrev pub holds : ℕ → Option HeldMutex → List Hold
holds used None = []
holds used (Some h) = record { mutex = h.mutex; ticks = used - h.since } ∷ []

-- the mutex of a job with so many ticks is held within its longest hold, and this within the body of the first window
abbrev pub Kept : Configuration → ℕ → ℕ → Option HeldMutex → Type 0
Kept c p used None = Unit {0}
Kept c p used (Some h) = (h.since ≤ used) × (used < h.since + longest_hold c h.mutex) × (h.since + longest_hold c h.mutex ≤ body c p)

-- and may be held for one more
abbrev pub Stays : Configuration → ℕ → Option HeldMutex → Type 0
Stays c used None = Unit {0}
Stays c used (Some h) = suc used < h.since + longest_hold c h.mutex

abbrev pub Ends : ℕ → Option HeldMutex → Type 0
Ends m None = ⊥
Ends m (Some h) = h.mutex ≡ m

-- the next tick of a job with so many can be done, where it ends with this event
abbrev pub Granted : Configuration → ℕ → ℕ → Option HeldMutex → Option Event → Type 0
Granted c p used held None = Stays c used held
Granted c p used held (Some (Event.Put v)) = Stays c used held
Granted c p used held (Some (Event.Lock m)) = IsFree held × (is_user c m p ≡ true) × (suc used + longest_hold c m ≤ body c p)
Granted c p used held (Some (Event.Unlock m)) = Ends m held
Granted c p used held (Some _) = ⊥

-- what is held behind it
abbrev pub held_next : ℕ → Option HeldMutex → Option Event → Option HeldMutex
held_next used held (Some (Event.Lock m)) = Some (record { mutex = m; since = suc used })
held_next used held (Some (Event.Unlock m)) = None
held_next used held _ = held

-- so can ticks with these entries, and in the end nothing is held
abbrev pub Goes : Configuration → ℕ → ℕ → Option HeldMutex → List Entry → Type 0
Goes c p used held [] = IsFree held
Goes c p used held (e ∷ es) = Granted c p used held e.event × Goes c p (suc used) (held_next used held e.event) es

-- t and d more
abbrev pub ahead : ℕ → ℕ → ℕ
ahead zero t = t
ahead (suc d) t = ahead d (suc t)

pub ahead-is : (d t : ℕ) → ahead d t ≡ d + t
ahead-is zero t = omega arith
ahead-is (suc d) t = let rest = ahead-is d (suc t) in omega (arith, rest)

-- the entries, the newest first, in front of those before
abbrev pub onto : List Entry → List Entry → List Entry
onto [] es = es
onto (e ∷ more) es = onto more (e ∷ es)

kept-on : (c : Configuration) (p used : ℕ) (held : Option HeldMutex) → Kept c p used held → Stays c used held → Kept c p (suc used) held
kept-on c p used None kept stays = tt
kept-on c p used (Some h) kept stays = let low = kept.0 in (omega (arith, low), stays, kept.2)

aged-holds : (c : Configuration) (p used : ℕ) (held : Option HeldMutex) → Kept c p used held → map aged (holds used held) ≡ holds (suc used) held
aged-holds c p used None kept = refl
aged-holds c p used (Some h) kept =
    let low = kept.0 in
    let more : used - h.since + 1 ≡ suc used - h.since = omega (arith, low) in
    ap (λ n. (let hs : List Hold = record { mutex = h.mutex; ticks = n } ∷ [] in hs)) more

and-false : (b : Bool) → (b && false) ≡ false
and-false true = refl
and-false false = refl

-- no hold breaks in a tick that may be held for one more
unbroken : (c : Configuration) (p used : ℕ) (held : Option HeldMutex) → Kept c p used held → Stays c used held → eqb (innermost_left c (holds used held)) 1 ≡ false
unbroken c p used None kept stays = refl
unbroken c p used (Some h) kept stays =
    let low = kept.0 in
    let left : 1 < longest_hold c h.mutex - (used - h.since) = omega (arith, low, stays) in
    grind (arith, nat_tests)

-- what the entries of a body make of it
after-run : (p share used : ℕ) (held : List Hold) (es : List Entry)
    → after p (quiet_entry (Label.Run (main_id p))) (busy es share used held) ≡ busy (quiet_entry (Label.Run (main_id p)) ∷ es) share (suc used) (map aged held)
after-run p share used held es =
    let self = same-self p in
    rw self (same-own _ _ _ _ _ _ _ _ refl (same-job _ _ _ _ _ _ _ _ refl (omega arith) (omega arith) refl) refl refl)

after-call : (p share used : ℕ) (held : List Hold) (es : List Entry)
    → after p (quiet_entry (Label.Call (main_id p))) (busy es share used held) ≡ busy (quiet_entry (Label.Call (main_id p)) ∷ es) share (suc used) (map aged held)
after-call p share used held es =
    let self = same-self p in
    rw self (same-own _ _ _ _ _ _ _ _ refl (same-job _ _ _ _ _ _ _ _ refl (omega arith) (omega arith) refl) refl refl)

after-put : (p share used v : ℕ) (held : List Hold) (es : List Entry)
    → after p (last_tick p (Event.Put v)) (busy es share used held) ≡ busy (last_tick p (Event.Put v) ∷ es) share (suc used) (map aged held)
after-put p share used v held es =
    let self = same-self p in
    rw self (same-own _ _ _ _ _ _ _ _ refl (same-job _ _ _ _ _ _ _ _ refl (omega arith) (omega arith) refl) refl refl)

after-lock : (p share used m : ℕ) (held : List Hold) (es : List Entry)
    → after p (last_tick p (Event.Lock m)) (busy es share used held)
    ≡ busy (last_tick p (Event.Lock m) ∷ es) share (suc used) (held_after (Some (Event.Lock m)) (map aged held))
after-lock p share used m held es =
    let self = same-self p in
    rw self (same-own _ _ _ _ _ _ _ _ refl (same-job _ _ _ _ _ _ _ _ refl (omega arith) (omega arith) refl) refl refl)

after-unlock : (p share used m : ℕ) (held : List Hold) (es : List Entry)
    → after p (last_tick p (Event.Unlock m)) (busy es share used held)
    ≡ busy (last_tick p (Event.Unlock m) ∷ es) share (suc used) (held_after (Some (Event.Unlock m)) (map aged held))
after-unlock p share used m held es =
    let self = same-self p in
    rw self (same-own _ _ _ _ _ _ _ _ refl (same-job _ _ _ _ _ _ _ _ refl (omega arith) (omega arith) refl) refl refl)

lock-granted : (c : Configuration) (p m left : ℕ) → is_user c m p ≡ true → longest_hold c m ≤ left → lock_with c p m left [] ≡ None
lock-granted c p m left user much =
    let test : ltb left (longest_hold c m) ≡ false = grind (arith, nat_tests) in
    rw (user, test) refl

unlock-granted : (m used since : ℕ) (h : HeldMutex) → h.mutex ≡ m → unlock_with m (record { mutex = h.mutex; ticks = used } ∷ []) ≡ None
unlock-granted m used since h is =
    let test : eqb h.mutex m ≡ true = grind (arith, nat_tests) in
    rw test refl

given-back : (m ticks : ℕ) (h : HeldMutex) → h.mutex ≡ m
    → held_after (Some (Event.Unlock m)) ((let one : Hold = record { mutex = h.mutex; ticks = ticks } in one) ∷ []) ≡ []
given-back m ticks h is =
    let test : eqb h.mutex m ≡ true = grind (arith, nat_tests) in
    rw test refl

module _ (c : Configuration) (p : ℕ) (program : List ℕ) (positive : 0 < period c (main_level c p)) (s : ℕ) (begins : s % period c (main_level c p) ≡ 0)
    (checked : IsChecked c) where
  abbrev P : ℕ
  P = period c (main_level c p)

  abbrev W : ℕ
  W = c.costs.switch

  abbrev K : ℕ
  K = c.costs.call

  abbrev B : ℕ
  B = budget c p

  abbrev v : ℕ → World
  v n = alone c p program n

  abbrev Now : ℕ → Own → Context → List ℕ → Type 0
  Now t o x m = At c p program s t o x m

  in-body : (u : ℕ) → W ≤ u → u + W < B → phase W (the_job B u 0 false) ≡ Phase.Body
  in-body u late more =
      let first : ltb u W ≡ false = grind (arith, nat_tests) in
      let second : ltb u (B - W) ≡ true = grind (arith, nat_tests) in
      rw (first, second) refl

  something : (u : ℕ) → u + W < B → 0 < rem W (the_job B u 0 false)
  something u more = omega arith

  -- what is left of the body in the last tick of a call
  left-then : (t u : ℕ) (es : List Entry) (held : List Hold) (x : Context) (m : List ℕ) → t < s + P → Now t (busy es B u held) x m
      → thread_body_left c (length (v t).past) (quiet_entry (Label.Call (main_id p)) ∷ (v t).past) (main_row c p (v t).past) ≡ B - suc u - W
  left-then t u es held x m early a =
      let self = same-self p in
      let past = (v t).past in
      let same : job c (length past) past (main_row c p past) ≡ the_job B u 0 false =
      ap (λ (o : Own). o.job) (here c p program positive s begins t (busy es B u held) x m a early) in
      ap (body_left W) (job-charged c (Label.Call (main_id p)) past (main_row c p past))
      ∙ ap (λ (j : Job). body_left W (record { share = j.share; used = cond (is_budget_of (main_id p) (quiet_entry (Label.Call (main_id p)))) 1 0 + j.used; out_ticks = cond (is_out_of (main_id p) (quiet_entry (Label.Call (main_id p)))) 1 0 + j.out_ticks; closed = j.closed })) same
      ∙ rw self (omega arith)

  -- what is held then
  held-then : (t u : ℕ) (es : List Entry) (held : List Hold) (x : Context) (m : List ℕ) → Now t (busy es B u held) x m
      → held_by (main_id p) (quiet_entry (Label.Call (main_id p)) ∷ (v t).past) ≡ map aged held
  held-then t u es held x m a =
      let self = same-self p in
      let before : held_by (main_id p) (v t).past ≡ held = ap (λ (z : Own). z.held) a.own in
      held-quiet (main_id p) (Label.Call (main_id p)) (v t).past ∙ (rw (self, before) refl)

  -- a tick with one of these entries
  abbrev Next : ℕ → ℕ → ℕ → List Entry → Option HeldMutex → Entry → Context → List ℕ → Type 0
  Next t u used es held e y l = Now (suc t) (busy (e ∷ es) B (suc u) (holds (suc used) (held_next used held e.event))) y l

  run : (t u used : ℕ) (es : List Entry) (held : Option HeldMutex) (x y : Context) (m l : List ℕ) → W ≤ u → u + W < B → t < s + P
      → Kept c p used held → Stays c used held → Now t (busy es B u (holds used held)) x m → body_tick K program x m ≡ ran y l
      → Now (suc t) (busy (quiet_entry (Label.Run (main_id p)) ∷ es) B (suc u) (holds (suc used) held)) y l
  run t u used es held x y m l low room early kept stays a tick =
      let hs : List Hold = holds used held in
      let whole : breaks_hold c hs x Outcome.Ran ≡ false = ap (λ b. b && true) (unbroken c p used held kept stays) in
      subst (λ (o : Own). Now (suc t) o y l)
      (after-run p B u hs es ∙ ap (λ (k : List Hold). busy (quiet_entry (Label.Run (main_id p)) ∷ es) B (suc u) k) (aged-holds c p used held kept))
      (turns.body c p program positive s begins t (busy es B u hs) x m (ran y l) None None a early (something u room) (in-body u low room) whole tick refl tt)

  in-call : (t u used : ℕ) (es : List Entry) (held : Option HeldMutex) (x y : Context) (m l : List ℕ) → W ≤ u → u + W < B → t < s + P
      → Kept c p used held → Stays c used held → Now t (busy es B u (holds used held)) x m
      → body_tick K program x m ≡ record { outcome = Outcome.InCall; context = y; memory = l }
      → Now (suc t) (busy (quiet_entry (Label.Call (main_id p)) ∷ es) B (suc u) (holds (suc used) held)) y l
  in-call t u used es held x y m l low room early kept stays a tick =
      let hs : List Hold = holds used held in
      let whole : breaks_hold c hs x Outcome.InCall ≡ false = ap (λ b. b && true) (unbroken c p used held kept stays) in
      subst (λ (o : Own). Now (suc t) o y l)
      (after-call p B u hs es ∙ ap (λ (k : List Hold). busy (quiet_entry (Label.Call (main_id p)) ∷ es) B (suc u) k) (aged-holds c p used held kept))
      (turns.body c p program positive s begins t (busy es B u hs) x m (record { outcome = Outcome.InCall; context = y; memory = l }) None None a early (something u room) (in-body u low room) whole tick refl tt)

  put-done : (t u used : ℕ) (es : List Entry) (held : Option HeldMutex) (x z : Context) (m l : List ℕ) → W ≤ u → u + W < B → t < s + P
      → Kept c p used held → Stays c used held → Now t (busy es B u (holds used held)) x m
      → body_tick K program x m ≡ record { outcome = Outcome.CallDone KernelCall.Put; context = z; memory = l }
      → Now (suc t) (busy (last_tick p (Event.Put (reg z 1)) ∷ es) B (suc u) (holds (suc used) held)) (replied z 0 None) l
  put-done t u used es held x z m l low room early kept stays a tick =
      let hs : List Hold = holds used held in
      let whole : breaks_hold c hs x (Outcome.CallDone KernelCall.Put) ≡ false = ap (λ b. b && true) (unbroken c p used held kept stays) in
      subst (λ (o : Own). Now (suc t) o (replied z 0 None) l)
      (after-put p B u (reg z 1) hs es ∙ ap (λ (k : List Hold). busy (last_tick p (Event.Put (reg z 1)) ∷ es) B (suc u) k) (aged-holds c p used held kept))
      (turns.body c p program positive s begins t (busy es B u hs) x m (record { outcome = Outcome.CallDone KernelCall.Put; context = z; memory = l })
      (Some (Event.Put (reg z 1))) (Some (record { r0 = 0; r1 = None })) a early (something u room) (in-body u low room) whole tick refl tt)

  lock-done : (t u used : ℕ) (es : List Entry) (x z : Context) (m l : List ℕ) → W ≤ u → u + W < B → t < s + P → u ≤ W + used
      → is_user c (reg z 1) p ≡ true → suc used + longest_hold c (reg z 1) ≤ body c p → Now t (busy es B u []) x m
      → body_tick K program x m ≡ record { outcome = Outcome.CallDone KernelCall.Lock; context = z; memory = l }
      → Now (suc t) (busy (last_tick p (Event.Lock (reg z 1)) ∷ es) B (suc u) (holds (suc used) (Some (record { mutex = reg z 1; since = suc used })))) (replied z 0 None) l
  lock-done t u used es x z m l low room early behind user much a tick =
      let n : ℕ = reg z 1 in
      let past = (v t).past in
      let label : Label = Label.Call (main_id p) in
      let left : ℕ = B - suc u - W in
      let granted : lock_refusal c (length past) (quiet_entry label ∷ past) (main_row c p past) n ≡ None =
      ap (λ k. lock_with c p n k (held_by (main_id p) (quiet_entry label ∷ past))) (left-then t u es [] x m early a)
      ∙ ap (λ (hs : List Hold). lock_with c p n left hs) (held-then t u es [] x m a)
      ∙ lock-granted c p n left user (omega (arith, much, behind, low)) in
      let none : 0 ≡ suc used - suc used = omega arith in
      subst (λ (o : Own). Now (suc t) o (replied z 0 None) l)
      (after-lock p B u n [] es ∙ ap (λ k. busy (last_tick p (Event.Lock n) ∷ es) B (suc u) ((let h : Hold = record { mutex = n; ticks = k } in h) ∷ [])) none)
      (turns.body c p program positive s begins t (busy es B u []) x m (record { outcome = Outcome.CallDone KernelCall.Lock; context = z; memory = l })
      (Some (Event.Lock n)) (Some (record { r0 = 0; r1 = None })) a early (something u room) (in-body u low room) refl tick
      (ap (λ r. or_refused r (done (Event.Lock n))) granted) tt)

  unlock-done : (t u used : ℕ) (es : List Entry) (h : HeldMutex) (x z : Context) (m l : List ℕ) → W ≤ u → u + W < B → t < s + P
      → Kept c p used (Some h) → h.mutex ≡ reg z 1 → reg x 1 ≡ reg z 1 → Now t (busy es B u (holds used (Some h))) x m
      → body_tick K program x m ≡ record { outcome = Outcome.CallDone KernelCall.Unlock; context = z; memory = l }
      → Now (suc t) (busy (last_tick p (Event.Unlock (reg z 1)) ∷ es) B (suc u) []) (replied z 0 None) l
  unlock-done t u used es h x z m l low room early kept mine alike a tick =
      let n : ℕ = reg z 1 in
      let past = (v t).past in
      let label : Label = Label.Call (main_id p) in
      let hs : List Hold = holds used (Some h) in
      let granted-there : or_refused (unlock_refusal (quiet_entry label ∷ past) (main_row c p past) n) (done (Event.Unlock n)) ≡ done (Event.Unlock n) =
      ap (λ (k : List Hold). or_refused (unlock_with n k) (done (Event.Unlock n))) (held-then t u es hs x m a)
      ∙ ap (λ r. or_refused r (done (Event.Unlock n))) (unlock-granted n (used - h.since + 1) h.since h mine) in
      let own-mutex : eqb h.mutex (reg x 1) ≡ true = grind (arith, nat_tests) in
      let whole : breaks_hold c hs x (Outcome.CallDone KernelCall.Unlock) ≡ false =
      ap (λ b. eqb (innermost_left c hs) 1 && not b) own-mutex ∙ and-false (eqb (innermost_left c hs) 1) in
      subst (λ (o : Own). Now (suc t) o (replied z 0 None) l)
      (after-unlock p B u n hs es ∙ ap (λ (k : List Hold). busy (last_tick p (Event.Unlock n) ∷ es) B (suc u) k) (given-back n (used - h.since + 1) h mine))
      (turns.body c p program positive s begins t (busy es B u hs) x m (record { outcome = Outcome.CallDone KernelCall.Unlock; context = z; memory = l })
      (Some (Event.Unlock n)) (Some (record { r0 = 0; r1 = None })) a early (something u room) (in-body u low room) whole tick granted-there tt)

  -- what is held stays so kept
  kept-next : (used : ℕ) (held : Option HeldMutex) (event : Option Event) → Kept c p used held → Granted c p used held event → Kept c p (suc used) (held_next used held event)
  kept-next used held None kept granted = kept-on c p used held kept granted
  kept-next used held (Some (Event.Put n)) kept granted = kept-on c p used held kept granted
  kept-next used held (Some (Event.Lock n)) kept granted =
      let hold = checked.holds n p granted.1 in
      let much = granted.2 in
      (omega arith, omega (arith, hold), much)
  kept-next used held (Some (Event.Unlock n)) kept granted = tt
  kept-next used held (Some event) kept granted = absurd granted

  -- the last tick of a call
  call-done : (t u used : ℕ) (es : List Entry) (held : Option HeldMutex) (kernel : KernelCall) (x z : Context) (m l : List ℕ) (event : Event) → W ≤ u → u + W < B → t < s + P
      → u ≤ W + used → Kept c p used held → Granted c p used held (Some event) → Tells kernel z event → reg x 1 ≡ reg z 1
      → body_tick K program x m ≡ record { outcome = Outcome.CallDone kernel; context = z; memory = l } → Now t (busy es B u (holds used held)) x m
      → Next t u used es held (last_tick p event) (replied z 0 None) l
  call-done t u used es held KernelCall.Put x z m l event low room early behind kept granted tells alike tick a =
      let stays : Stays c used held = subst (λ ev. Granted c p used held (Some ev)) tells granted in
      subst (λ ev. Next t u used es held (last_tick p ev) (replied z 0 None) l) (sym tells)
      (put-done t u used es held x z m l low room early kept stays a tick)
  call-done t u used es None KernelCall.Lock x z m l event low room early behind kept granted tells alike tick a =
      let fits : Granted c p used None (Some (Event.Lock (reg z 1))) = subst (λ ev. Granted c p used None (Some ev)) tells granted in
      subst (λ ev. Next t u used es None (last_tick p ev) (replied z 0 None) l) (sym tells)
      (lock-done t u used es x z m l low room early behind fits.1 fits.2 a tick)
  call-done t u used es (Some h) KernelCall.Lock x z m l event low room early behind kept granted tells alike tick a =
      let fits : Granted c p used (Some h) (Some (Event.Lock (reg z 1))) = subst (λ ev. Granted c p used (Some h) (Some ev)) tells granted in
      absurd fits.0
  call-done t u used es None KernelCall.Unlock x z m l event low room early behind kept granted tells alike tick a =
      let fits : Granted c p used None (Some (Event.Unlock (reg z 1))) = subst (λ ev. Granted c p used None (Some ev)) tells granted in
      absurd fits
  call-done t u used es (Some h) KernelCall.Unlock x z m l event low room early behind kept granted tells alike tick a =
      let fits : Granted c p used (Some h) (Some (Event.Unlock (reg z 1))) = subst (λ ev. Granted c p used (Some h) (Some ev)) tells granted in
      subst (λ ev. Next t u used es (Some h) (last_tick p ev) (replied z 0 None) l) (sym tells)
      (unlock-done t u used es h x z m l low room early kept fits alike a tick)
  call-done t u used es held KernelCall.Wait x z m l event low room early behind kept granted tells alike tick a =
      absurd (subst (λ ev. Granted c p used held (Some ev)) tells granted)
  call-done t u used es held kernel x z m l event low room early behind kept granted tells alike tick a = absurd tells

  -- a tick that can be done
  one : (t u used : ℕ) (es : List Entry) (held : Option HeldMutex) (e : Entry) (x y : Context) (m l : List ℕ) → W ≤ u → u + W < B → t < s + P
      → u ≤ W + used → Kept c p used held → Granted c p used held e.event → IsMove K program p e x m y l → Now t (busy es B u (holds used held)) x m
      → Next t u used es held e y l
  one t u used es held e x y m l low room early behind kept granted move a =
      elim move [
        | inl work ↦
            let stays : Stays c used held = subst (λ (d : Entry). Granted c p used held d.event) work.0 granted in
            subst (λ (d : Entry). Next t u used es held d y l) (sym work.0) (run t u used es held x y m l low room early kept stays a work.1)
        | inr other ↦ elim other [
          | inl waits ↦
              let stays : Stays c used held = subst (λ (d : Entry). Granted c p used held d.event) waits.0 granted in
              subst (λ (d : Entry). Next t u used es held d y l) (sym waits.0) (in-call t u used es held x y m l low room early kept stays a waits.1)
          | inr last ↦
              let fits : Granted c p used held (Some last.event) = subst (λ (d : Entry). Granted c p used held d.event) last.entry granted in
              subst (λ (d : Entry). Next t u used es held d y l) (sym last.entry)
              (subst (λ (k : Context). Next t u used es held (last_tick p last.event) k l) (sym last.answer)
              (call-done t u used es held last.call x last.context m l last.event low room early behind kept fits last.tells last.number last.tick a))
        ]
      ]

  -- ticks that can be done, as many as the body has room for
  pub ticks : (es more rest behind : List Entry) (t u used : ℕ) (held : Option HeldMutex) (x z : Context) (m w : List ℕ) → W ≤ u → u + length more + W ≤ B
      → t + length more ≤ s + P → u ≤ W + used → Kept c p used held → Goes c p used held (more ++ rest) → Moves K program p (more ++ behind) x m z w
      → Now t (busy es B u (holds used held)) x m
      → (y : Context) × (l : List ℕ) × (later : Option HeldMutex)
      × Now (ahead (length more) t) (busy (onto more es) B (ahead (length more) u) (holds (ahead (length more) used) later)) y l
      × Kept c p (ahead (length more) used) later × Goes c p (ahead (length more) used) later rest × Moves K program p behind y l z w
  ticks es [] rest behind t u used held x z m w low room early slow kept goes moves a = (x, m, held, a, kept, goes, moves)
  ticks es (e ∷ more) rest behind t u used held x z m w low room early slow kept goes moves a =
      ticks (e ∷ es) more rest behind (suc t) (suc u) (suc used) (held_next used held e.event) moves.0 z moves.1 w (omega arith) (omega (arith, room)) (omega (arith, early))
      (omega (arith, slow)) (kept-next used held e.event kept goes.0) goes.1 moves.3
      (one t u used es held e x moves.0 m moves.1 low (omega (arith, room)) (omega (arith, early)) slow kept goes.0 moves.2 a)
