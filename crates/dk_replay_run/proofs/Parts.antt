-- The windows of a job: those that it fills, where it is longer than the body, and its last.
use Rattle.dk_alone.proofs.Names.{ℕ, zero, suc, ◌≡◌, ◌+◌, ◌-◌, ◌*◌, ◌%◌, ◌<◌, ◌≤◌, inl, inr, true, false, ltb, List, [], ◌∷◌, ◌++◌, length, Option, Some, None, refl, sym, ap, ◌∙◌, subst, arith, nat_tests, reverse, replicate, Configuration, IsChecked, period, main_level, budget, Phase, Choice, Label, Event, Entry, phase, rem, the_job, main_id, Context, Outcome, KernelCall, body_tick, World, quiet_entry, alone, choice_alone}
use Rattle.std.proofs.Common.{append_assoc, append-nil}
use Rattle.std.proofs.lemmas.Grind.{reverse_onto}
use Rattle.dk_cpu.specs.State.{replied}
use Rattle.dk_profile.specs.Faults.{body}
use Rattle.dk_profile.specs.declared.jobs.HeldMutex.{HeldMutex}
use Rattle.dk_alone.proofs.Own.{Own}
use Rattle.dk_alone.proofs.Again.{on, on-is}
use Rattle.dk_replay_run.specs.Profiles.{IsFree, whole_window}
use Rattle.dk_replay_run.proofs.Turns.{At, going, waits, after-out, after-wait, chosen, quiet, wait-tick}
use Rattle.dk_replay_run.proofs.Phases.{ins, outs, rests, renewed, left-shut}
use Rattle.dk_replay_run.proofs.Moves.{IsMove, Moves, Tells, last_tick, replicate-on}
use Rattle.dk_replay_run.proofs.Doing.{Goes, Kept, ahead, ahead-is, busy, holds, onto, ticks}

pub onto-is : (more es : List Entry) → onto more es ≡ reverse more ++ es
onto-is [] es = refl
onto-is (e ∷ more) es =
    onto-is more (e ∷ es)
    ∙ sym (ap (λ (t : List Entry). t ++ es) (reverse_onto more e []) ∙ append_assoc (reverse more) (e ∷ []) es)

pub onto-both : (a b es : List Entry) → onto (a ++ b) es ≡ onto b (onto a es)
onto-both [] b es = refl
onto-both (e ∷ a) b es = onto-both a b (e ∷ es)

pub onto-same : (e : Entry) (n : ℕ) (es : List Entry) → onto (replicate n e) es ≡ replicate n e ++ es
onto-same e zero es = refl
onto-same e (suc n) es = onto-same e n (e ∷ es) ∙ replicate-on e n es

-- a window as its entries are added
pub window-onto : (c : Configuration) (p : ℕ) (entries es : List Entry)
    → onto (whole_window c p entries) es
    ≡ replicate c.costs.switch (quiet_entry (Label.Out (main_id p)))
    ++ onto entries (replicate c.costs.switch (quiet_entry (Label.In (main_id p))) ++ es)
window-onto c p entries es =
    let I : List Entry = replicate c.costs.switch (quiet_entry (Label.In (main_id p))) in
    let O : List Entry = replicate c.costs.switch (quiet_entry (Label.Out (main_id p))) in
    onto-both I (entries ++ O) es
    ∙ ap (λ (t : List Entry). onto (entries ++ O) t) (onto-same (quiet_entry (Label.In (main_id p))) c.costs.switch es)
    ∙ onto-both entries O (I ++ es)
    ∙ onto-same (quiet_entry (Label.Out (main_id p))) c.costs.switch (onto entries (I ++ es))

-- with as many ticks as the body has nothing is held
free-then : (c : Configuration) (p used : ℕ) (held : Option HeldMutex) → body c p ≤ used → Kept c p used held → held ≡ None
free-then c p used None all kept = refl
free-then c p used (Some h) all kept =
    let late = kept.1 in
    let most = kept.2 in
    absurd (omega (arith, all, late, most))

free-is : (held : Option HeldMutex) → IsFree held → held ≡ None
free-is None free = refl
free-is (Some h) free = absurd free

-- a call that tells of a wait is one
is-wait-call : (call : KernelCall) (z : Context) → Tells call z Event.Wait → call ≡ KernelCall.Wait
is-wait-call KernelCall.Wait z tells = refl
is-wait-call KernelCall.Lock z tells = absurd (cc)
is-wait-call KernelCall.Unlock z tells = absurd (cc)
is-wait-call KernelCall.Put z tells = absurd (cc)
is-wait-call call z tells = absurd tells

some-event : (a b : Event) → Some a ≡ Some b → a ≡ b
some-event a b e = cc

no-event : (a : Event) → Some a ≡ None → ⊥
no-event a e = absurd (cc)

is-out : (B u o W : ℕ) → W ≤ u → B ≤ u + W → phase W (the_job B u o false) ≡ Phase.Out
is-out B u o W late all =
    let first : ltb u W ≡ false = grind (arith, nat_tests) in
    let second : ltb u (B - W) ≡ false = grind (arith, nat_tests) in
    rw (first, second) refl

module _ (c : Configuration) (p : ℕ) (program : List ℕ) (positive : 0 < period c (main_level c p)) (s : ℕ) (begins : s % period c (main_level c p) ≡ 0)
    (fits : budget c p ≤ period c (main_level c p)) (checked : IsChecked c) where
  abbrev P : ℕ
  P = period c (main_level c p)

  abbrev W : ℕ
  W = c.costs.switch

  abbrev K : ℕ
  K = c.costs.call

  abbrev B : ℕ
  B = budget c p

  abbrev v : ℕ → World
  v n = alone c p program n

  abbrev Now : ℕ → Own → Context → List ℕ → Type 0
  Now t o x m = At c p program s t o x m

  abbrev I : List Entry
  I = replicate W (quiet_entry (Label.In (main_id p)))

  abbrev O : List Entry
  O = replicate W (quiet_entry (Label.Out (main_id p)))

  -- the switch out of a main that didn't wait
  outs-open : (j t u : ℕ) (es : List Entry) (x : Context) (m : List ℕ) → j ≤ W → W ≤ u → u + W ≡ B → t + j ≤ s + P → Now t (going es B u 0 false) x m
      → Now (on j t) (going (replicate j (quiet_entry (Label.Out (main_id p))) ++ es) B (on j u) j false) x m
  outs-open zero t u es x m low late all high a = a
  outs-open (suc j) t u es x m low late all high a =
      let so_far : List Entry = replicate j (quiet_entry (Label.Out (main_id p))) ++ es in
      let o : Own = going so_far B (on j u) j false in
      let before : Now (on j t) o x m = outs-open j t u es x m (omega arith) late all (omega arith) a in
      let place = on-is j t in
      let used = on-is j u in
      let early : on j t < s + P = omega (arith, place, high) in
      let more : 0 < rem W o.job = omega (arith, used, all, low) in
      let choice : choice_alone c p (v (on j t)).past ≡ Choice.Budget (main_id p) Phase.Out =
      chosen c p program positive s begins (on j t) o x m before early more
      ∙ ap (Choice.Budget (main_id p)) (is-out B (on j u) j W (omega (arith, used, late)) (omega (arith, used, all))) in
      subst (λ (z : Own). Now (suc (on j t)) z x m) (after-out p B (on j u) j false so_far)
      (quiet c p program positive s begins (on j t) o x m (Choice.Budget (main_id p) Phase.Out) (Label.Out (main_id p)) before early refl choice)

  -- what a whole window leaves
  abbrev pub Left : List Entry → List Entry → Context → List ℕ → Type 0
  Left entries es y l = At c p program (s + P) (s + P) (going (onto (whole_window c p entries) es) B 0 0 false) y l

  -- a window that the job fills
  pub full : (chunk rest behind es : List Entry) (used : ℕ) (x z : Context) (m w : List ℕ) → length chunk ≡ body c p → body c p + 2 * W ≡ B → 0 < body c p
      → Goes c p used None (chunk ++ rest) → Moves K program p (chunk ++ behind) x m z w → Now s (going es B 0 0 false) x m
      → (y : Context) × (l : List ℕ) × Left chunk es y l × Goes c p (body c p + used) None rest × Moves K program p behind y l z w
  full chunk rest behind es used x z m w long room some goes moves a =
      let n : ℕ = length chunk in
      let t1 : ℕ = on W s in
      let is1 : t1 ≡ W + s = on-is W s in
      let a1 : Now t1 (going (I ++ es) B W 0 false) x m = ins c p program positive s begins fits W es x m (omega arith) (omega (arith, room, some)) a in
      let done = ticks c p program positive s begins checked (I ++ es) chunk rest behind t1 W used None x z m w (omega arith) (omega (arith, long, room))
      (omega (arith, is1, long, room, fits)) (omega arith) tt goes moves a1 in
      let y : Context = done.0 in
      let l : List ℕ = done.1 in
      let later : Option HeldMutex = done.2 in
      let used2 : ℕ = ahead n used in
      let us : used2 ≡ n + used = ahead-is n used in
      let none : later ≡ None = free-then c p used2 later (omega (arith, us, long)) done.4 in
      let t2 : ℕ = ahead n t1 in
      let u2 : ℕ = ahead n W in
      let is2 : t2 ≡ n + t1 = ahead-is n t1 in
      let us2 : u2 ≡ n + W = ahead-is n W in
      let es2 : List Entry = onto chunk (I ++ es) in
      let a2 : Now t2 (going es2 B u2 0 false) y l = subst (λ (h : Option HeldMutex). Now t2 (busy es2 B u2 (holds used2 h)) y l) none done.3 in
      let t3 : ℕ = on W t2 in
      let u3 : ℕ = on W u2 in
      let is3 : t3 ≡ W + t2 = on-is W t2 in
      let us3 : u3 ≡ W + u2 = on-is W u2 in
      let a3 : Now t3 (going (O ++ es2) B u3 W false) y l =
      outs-open W t2 u2 es2 y l (omega arith) (omega (arith, us2)) (omega (arith, us2, long, room)) (omega (arith, is1, is2, long, room, fits)) a2 in
      let spent : rem W (the_job B u3 W false) ≡ 0 = omega (arith, us2, us3, long, room) in
      let r : ℕ = s + P - t3 in
      let end : on r t3 ≡ s + P = on-is r t3 ∙ omega (arith, is1, is2, is3, long, room, fits) in
      let a4 : Now (on r t3) (going (O ++ es2) B u3 W false) y l =
      rests c p program positive s begins fits r t3 (going (O ++ es2) B u3 W false) y l spent (omega (arith, is1, is2, is3, long, room, fits)) a3 in
      let a5 = renewed c p program positive s begins fits (O ++ es2) B u3 W false y l (subst (λ t. Now t (going (O ++ es2) B u3 W false) y l) end a4) in
      let sum : used2 ≡ body c p + used = omega (arith, us, long) in (
        y,
        l,
        subst (λ (t : List Entry). At c p program (s + P) (s + P) (going t B 0 0 false) y l) (sym (window-onto c p chunk es)) a5,
        subst (λ (h : Option HeldMutex). Goes c p (body c p + used) h rest) none (subst (λ k. Goes c p k later rest) sum done.5),
        done.6,
      )

  -- the last tick of a wait
  wait-on : (t u : ℕ) (es : List Entry) (y z : Context) (l w : List ℕ) → W ≤ u → u + W < B → t < s + P → IsMove K program p (last_tick p Event.Wait) y l z w
      → Now t (going es B u 0 false) y l → Now (suc t) (going (waits p ∷ es) B (suc u) 0 true) z w
  wait-on t u es y z l w low room early move a =
      elim move [
        | inl work ↦ absurd (no-event Event.Wait (ap (λ (e : Entry). e.event) work.0))
        | inr other ↦ elim other [
          | inl call ↦ absurd (no-event Event.Wait (ap (λ (e : Entry). e.event) call.0))
          | inr done ↦
              let event : Event.Wait ≡ done.event = some-event Event.Wait done.event (ap (λ (e : Entry). e.event) done.entry) in
              let call : done.call ≡ KernelCall.Wait = is-wait-call done.call done.context (subst (λ e. Tells done.call done.context e) (sym event) done.tells) in
              let tick : body_tick K program y l ≡ record { outcome = Outcome.CallDone KernelCall.Wait; context = done.context; memory = w } =
              done.tick ∙ ap (λ k. record { outcome = Outcome.CallDone k; context = done.context; memory = w }) call in
              let o : Own = going es B u 0 false in
              subst (λ (k : Context). Now (suc t) (going (waits p ∷ es) B (suc u) 0 true) k w) (sym done.answer)
              (subst (λ (k : Own). Now (suc t) k (replied done.context 0 None) w) (after-wait p B u 0 false es)
              (wait-tick c p program positive s begins t o y done.context l w a early (omega arith) (in-body u low room) refl tick))
        ]
      ]
    where
      in-body : (u : ℕ) → W ≤ u → u + W < B → phase W (the_job B u 0 false) ≡ Phase.Body
      in-body u late more =
          let first : ltb u W ≡ false = grind (arith, nat_tests) in
          let second : ltb u (B - W) ≡ true = grind (arith, nat_tests) in
          rw (first, second) refl

  -- the window in which a job waits
  pub last : (chunk es : List Entry) (used : ℕ) (x z : Context) (m w : List ℕ) → length chunk < body c p → body c p + 2 * W ≡ B
      → Goes c p used None chunk → Moves K program p (chunk ++ last_tick p Event.Wait ∷ []) x m z w → Now s (going es B 0 0 false) x m
      → Left (chunk ++ last_tick p Event.Wait ∷ []) es z w
  last chunk es used x z m w short room goes moves a =
      let n : ℕ = length chunk in
      let t1 : ℕ = on W s in
      let is1 : t1 ≡ W + s = on-is W s in
      let a1 : Now t1 (going (I ++ es) B W 0 false) x m = ins c p program positive s begins fits W es x m (omega arith) (omega (arith, room, short)) a in
      let done = ticks c p program positive s begins checked (I ++ es) chunk [] (last_tick p Event.Wait ∷ []) t1 W used None x z m w (omega arith) (omega (arith, short, room))
      (omega (arith, is1, short, room, fits)) (omega arith) tt (subst (λ (t : List Entry). Goes c p used None t) (sym (append-nil chunk)) goes) moves a1 in
      let y : Context = done.0 in
      let l : List ℕ = done.1 in
      let later : Option HeldMutex = done.2 in
      let none : later ≡ None = free-is later done.5 in
      let t2 : ℕ = ahead n t1 in
      let u2 : ℕ = ahead n W in
      let is2 : t2 ≡ n + t1 = ahead-is n t1 in
      let us2 : u2 ≡ n + W = ahead-is n W in
      let es2 : List Entry = onto chunk (I ++ es) in
      let a2 : Now t2 (going es2 B u2 0 false) y l = subst (λ (h : Option HeldMutex). Now t2 (busy es2 B u2 (holds (ahead n used) h)) y l) none done.3 in
      let a3 : Now (suc t2) (going (waits p ∷ es2) B (suc u2) 0 true) done.6.0 done.6.1 =
      wait-on t2 u2 es2 y done.6.0 l done.6.1 (omega (arith, us2)) (omega (arith, us2, short, room)) (omega (arith, is1, is2, short, room, fits)) done.6.2 a2 in
      let a4 : Now (suc t2) (going (waits p ∷ es2) B (suc u2) 0 true) z w =
      subst (λ (k : Context). Now (suc t2) (going (waits p ∷ es2) B (suc u2) 0 true) k w) done.6.3.0
      (subst (λ (k : List ℕ). Now (suc t2) (going (waits p ∷ es2) B (suc u2) 0 true) done.6.0 k) done.6.3.1 a3) in
      let t3 : ℕ = on W (suc t2) in
      let u3 : ℕ = on W (suc u2) in
      let is3 : t3 ≡ W + suc t2 = on-is W (suc t2) in
      let us3 : u3 ≡ W + suc u2 = on-is W (suc u2) in
      let a5 : Now t3 (going (O ++ (waits p ∷ es2)) B u3 W true) z w =
      outs c p program positive s begins fits W (suc t2) (suc u2) (waits p ∷ es2) z w (omega arith) (omega arith) (omega (arith, is1, is2, short, room, fits)) a4 in
      let spent : rem W (the_job B u3 W true) ≡ 0 = left-shut B u3 W W (omega (arith, us3)) ∙ omega arith in
      let r : ℕ = s + P - t3 in
      let end : on r t3 ≡ s + P = on-is r t3 ∙ omega (arith, is1, is2, is3, short, room, fits) in
      let a6 : Now (on r t3) (going (O ++ (waits p ∷ es2)) B u3 W true) z w =
      rests c p program positive s begins fits r t3 (going (O ++ (waits p ∷ es2)) B u3 W true) z w spent (omega (arith, is1, is2, is3, short, room, fits)) a5 in
      let a7 = renewed c p program positive s begins fits (O ++ (waits p ∷ es2)) B u3 W true z w (subst (λ t. Now t (going (O ++ (waits p ∷ es2)) B u3 W true) z w) end a6) in
      let whole : O ++ (waits p ∷ es2) ≡ onto (whole_window c p (chunk ++ last_tick p Event.Wait ∷ [])) es =
      ap (λ (t : List Entry). O ++ t) (sym (onto-both chunk (last_tick p Event.Wait ∷ []) (I ++ es))) ∙ sym (window-onto c p (chunk ++ last_tick p Event.Wait ∷ []) es) in
      subst (λ (t : List Entry). At c p program (s + P) (s + P) (going t B 0 0 false) z w) whole a7
