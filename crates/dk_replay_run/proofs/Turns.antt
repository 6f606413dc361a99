-- One tick of a main that has the processor to itself and holds nothing.
use Rattle.dk_alone.proofs.Names.{ℕ, suc, ◌≡◌, ◌+◌, ◌-◌, ◌/◌, ◌%◌, ◌<◌, ◌≤◌, inl, inr, Bool, true, false, eqb, List, [], ◌∷◌, length, Option, Some, None, refl, sym, ap, ◌∙◌, subst, arith, add-mod-mod, cases_Bool, nat_tests, is_some, Configuration, period, main_level, window_start, Phase, Choice, Label, Event, Entry, Hold, held_by, phase, rem, label_of, same-job, the_job, job_at, main_id, main_row, main_stop, Context, Tick, Outcome, KernelCall, FaultKind, body_tick, Effect, effect, or_refused, done, held-quiet, Image, Turn, World, quiet_entry, step_of, thread_turn, breaks_hold, image_after, with_reply, work_done, tick_in, update-same, alone, choice_alone, is_of_process, entries_of}
use Rattle.std.specs.Prelude.{if◌then◌else◌}
use Rattle.std.proofs.Math.Nat.{mod-eq_of_lt}
use Rattle.dk_cpu.specs.State.{replied}
use Rattle.dk_world.specs.Calls.{Reply}
use Rattle.dk_world.specs.Run.{turned, thread_at}
use Rattle.dk_alone.proofs.Own.{Own, own, after, IsPlainEvent, Plain, same-own, filter-in, filter-out, booked-after}
use Rattle.dk_alone.proofs.Same.{row-at, wait_with}
use Rattle.dk_alone.proofs.Steps.{alone-works}
use Rattle.dk_alone.proofs.Ties.{alone-long}

-- what a past says of a main that holds nothing and was never stopped
abbrev pub going : List Entry → ℕ → ℕ → ℕ → Bool → Own
going es share used outs shut = record { entries = es; job = the_job share used outs shut; held = []; ended = false }

pub same-self : (p : ℕ) → eqb p p ≡ true
same-self p = grind (arith, nat_tests)

-- what each of its entries makes of it
pub after-in : (p share used outs : ℕ) (shut : Bool) (es : List Entry)
    → after p (quiet_entry (Label.In (main_id p))) (going es share used outs shut)
    ≡ going (quiet_entry (Label.In (main_id p)) ∷ es) share (suc used) outs shut
after-in p share used outs shut es =
    let self = same-self p in
    rw self (same-own _ _ _ _ _ _ _ _ refl (same-job _ _ _ _ _ _ _ _ refl (omega arith) (omega arith) refl) refl refl)

pub after-out : (p share used outs : ℕ) (shut : Bool) (es : List Entry)
    → after p (quiet_entry (Label.Out (main_id p))) (going es share used outs shut)
    ≡ going (quiet_entry (Label.Out (main_id p)) ∷ es) share (suc used) (suc outs) shut
after-out p share used outs shut es =
    let self = same-self p in
    rw self (same-own _ _ _ _ _ _ _ _ refl (same-job _ _ _ _ _ _ _ _ refl (omega arith) (omega arith) refl) refl refl)

-- the last tick of its wait
abbrev pub waits : ℕ → Entry
waits p = record { label = Label.Call (main_id p); event = Some Event.Wait }

pub after-wait : (p share used outs : ℕ) (shut : Bool) (es : List Entry)
    → after p (waits p) (going es share used outs shut) ≡ going (waits p ∷ es) share (suc used) outs true
after-wait p share used outs shut es =
    let self = same-self p in
    rw self (same-own _ _ _ _ _ _ _ _ refl (same-job _ _ _ _ _ _ _ _ refl (omega arith) (omega arith) refl) refl refl)

-- what a past says of the process in the window that starts at a tick
abbrev pub own_from : Configuration → ℕ → ℕ → List Entry → Own
own_from c p w past =
    record { entries = entries_of p past; job = job_at c w past (main_row c p past); held = held_by (main_id p) past; ended = is_some (main_stop p past) }

-- after t ticks by itself the process is so, in the window that starts at s
pub record At (c : Configuration) (p : ℕ) (program : List ℕ) (s t : ℕ) (o : Own) (x : Context) (words : List ℕ) : Type 0 where
  pub low : s ≤ t
  pub own : own_from c p s (alone c p program t).past ≡ o
  pub plain : Plain (entries_of p (alone c p program t).past)
  pub context : ((alone c p program t).images p).contexts 0 ≡ x
  pub memory : ((alone c p program t).images p).memory ≡ words
  pub code : ((alone c p program t).images p).code ≡ program

plain-more : (p : ℕ) (e : Entry) (past : List Entry) → IsPlainEvent e.event → Plain (entries_of p past) → Plain (entries_of p (e ∷ past))
plain-more p e past event plain =
    elim (cases_Bool (is_of_process p e)) [
      | inl is ↦ subst Plain (sym (filter-in p e past is)) (event, plain)
      | inr other ↦ subst Plain (sym (filter-out p e past other)) plain
    ]

-- the turn of a main whose hold breaks, or not
abbrev turn_of : Label → Image → Tick → Effect → Bool → Turn
turn_of label image tick given breaks =
    if breaks
    then record { entry = record { label = label; event = Some (Event.Fault FaultKind.Hold) }; image = image }
    else record { entry = record { label = label; event = given.event }; image = image_after image 0 tick given }

-- the turn of a main with these holds
abbrev turn_with : Configuration → Label → Image → Tick → List Hold → Effect → Turn
turn_with c label image tick held given = turn_of label image tick given (breaks_hold c held (image.contexts 0) tick.outcome)

-- an effect with no child
abbrev pub effect_of : Option Event → Option Reply → Effect
effect_of event reply = record { event = event; reply = reply; child = None }

module _ (c : Configuration) (p : ℕ) (program : List ℕ) (positive : 0 < period c (main_level c p)) (s : ℕ) (begins : s % period c (main_level c p) ≡ 0) where
  abbrev P : ℕ
  P = period c (main_level c p)

  abbrev W : ℕ
  W = c.costs.switch

  abbrev v : ℕ → World
  v n = alone c p program n

  start-of : (t : ℕ) → s ≤ t → t < s + P → window_start c (main_level c p) t ≡ s
  start-of t low high =
      let d : ℕ = t - s in
      let is : t ≡ d + s = omega arith in
      let small : d % P ≡ d = mod-eq_of_lt (omega arith) in
      let none : d + 0 ≡ d = omega arith in
      let place : t % P ≡ d =
      ap (λ k. k % P) is ∙ sym (add-mod-mod d s P) ∙ ap (λ k. (d + k) % P) begins ∙ ap (λ k. k % P) none ∙ small in
      ap (λ k. t - k) place ∙ omega arith

  grown : (t : ℕ) (e : Entry) (past : List Entry) (o : Own) → length past ≡ t → s ≤ t → t < s + P → Plain (entries_of p (e ∷ past))
      → own_from c p s past ≡ o → own_from c p s (e ∷ past) ≡ after p e o
  grown t e past o long low high plain is =
      let start : window_start c (main_level c p) (length past) ≡ s = ap (window_start c (main_level c p)) long ∙ start-of t low high in
      ap (λ w. own_from c p w (e ∷ past)) (sym start) ∙ booked-after c p positive e past plain ∙ ap (λ w. after p e (own_from c p w past)) start ∙ ap (after p e) is

  pub here : (t : ℕ) (o : Own) (x : Context) (m : List ℕ) → At c p program s t o x m → t < s + P → own c p (v t).past ≡ o
  here t o x m a early =
      let start : window_start c (main_level c p) (length (v t).past) ≡ s = ap (window_start c (main_level c p)) (alone-long c p program t) ∙ start-of t a.low early in
      ap (λ w. own_from c p w (v t).past) start ∙ a.own

  -- who has the next tick
  pub chosen : (t : ℕ) (o : Own) (x : Context) (m : List ℕ) → At c p program s t o x m → t < s + P → 0 < rem W o.job
      → choice_alone c p (v t).past ≡ Choice.Budget (main_id p) (phase W o.job)
  chosen t o x m a early some =
      let same = here t o x m a early in
      alone-works c p (v t).past (subst (λ (z : Own). 0 < rem W z.job) (sym same) some)
      ∙ ap (λ (z : Own). Choice.Budget (main_id p) (phase W z.job)) same

  -- the next tick has this entry, and leaves this context and memory
  moved : (t : ℕ) (o : Own) (x y : Context) (m l : List ℕ) (e : Entry) → At c p program s t o x m → t < s + P
      → (v (suc t)).past ≡ e ∷ (v t).past → IsPlainEvent e.event
      → ((v (suc t)).images p).contexts 0 ≡ y → ((v (suc t)).images p).memory ≡ l → ((v (suc t)).images p).code ≡ program
      → At c p program s (suc t) (after p e o) y l
  moved t o x y m l e a early more event context memory code =
      let low = a.low in
      let plain : Plain (entries_of p (e ∷ (v t).past)) = plain-more p e (v t).past event a.plain in
      record {
        low = omega arith;
        own = ap (own_from c p s) more ∙ grown t e (v t).past o (alone-long c p program t) a.low early plain a.own;
        plain = subst (λ es. Plain (entries_of p es)) (sym more) plain;
        context = context;
        memory = memory;
        code = code;
      }

  -- a tick in which nothing is executed
  pub quiet : (t : ℕ) (o : Own) (x : Context) (m : List ℕ) (choice : Choice) (label : Label) → At c p program s t o x m → t < s + P
      → step_of c (v t) choice ≡ record { past = quiet_entry label ∷ (v t).past; images = (v t).images } → choice_alone c p (v t).past ≡ choice
      → At c p program s (suc t) (after p (quiet_entry label) o) x m
  quiet t o x m choice label a early does is =
      let next : v (suc t) ≡ record { past = quiet_entry label ∷ (v t).past; images = (v t).images } = ap (step_of c (v t)) is ∙ does in
      moved t o x x m m (quiet_entry label) a early (ap (λ (w : World). w.past) next) tt
      (ap (λ (w : World). (w.images p).contexts 0) next ∙ a.context)
      (ap (λ (w : World). (w.images p).memory) next ∙ a.memory)
      (ap (λ (w : World). (w.images p).code) next ∙ a.code)

  -- a tick of the body, in which no hold breaks
  pub body : (t : ℕ) (o : Own) (x : Context) (m : List ℕ) (tick : Tick) (event : Option Event) (reply : Option Reply) → At c p program s t o x m → t < s + P
      → 0 < rem W o.job → phase W o.job ≡ Phase.Body → breaks_hold c o.held x tick.outcome ≡ false → body_tick c.costs.call program x m ≡ tick
      → effect c (length (v t).past) (quiet_entry (label_of (Choice.Budget (main_id p) Phase.Body) (work_done tick.outcome)) ∷ (v t).past) (main_row c p (v t).past) (length program / 4) tick.context tick.outcome
      ≡ effect_of event reply
      → IsPlainEvent event
      → At c p program s (suc t) (after p (record { label = label_of (Choice.Budget (main_id p) Phase.Body) (work_done tick.outcome); event = event }) o)
      (with_reply tick.context reply) tick.memory
  body t o x m tick event reply a early some in-body whole is gives plain =
      let w = v t in
      let image : Image = w.images p in
      let choice : Choice = Choice.Budget (main_id p) Phase.Body in
      let label : Label = label_of choice (work_done tick.outcome) in
      let e : Entry = record { label = label; event = event } in
      let after-image : Image = image_after image 0 tick (effect_of event reply) in
      let choose : choice_alone c p w.past ≡ choice = chosen t o x m a early some ∙ ap (Choice.Budget (main_id p)) in-body in
      let ticks : tick_in c image 0 ≡ tick =
      ap (λ (code : List ℕ). body_tick c.costs.call code (image.contexts 0) image.memory) a.code
      ∙ ap (λ (z : Context). body_tick c.costs.call program z image.memory) a.context
      ∙ ap (λ (l : List ℕ). body_tick c.costs.call program x l) a.memory ∙ is in
      let held : held_by (main_id p) w.past ≡ o.held = ap (λ (z : Own). z.held) a.own in
      let stays : breaks_hold c o.held (image.contexts 0) tick.outcome ≡ false = ap (λ (z : Context). breaks_hold c o.held z tick.outcome) a.context ∙ whole in
      let given : Effect = effect c (length w.past) (quiet_entry label ∷ w.past) (thread_at c w.past (main_id p)) (length image.code / 4) tick.context tick.outcome in
      let effects : given ≡ effect_of event reply =
      ap (λ row. effect c (length w.past) (quiet_entry label ∷ w.past) row (length image.code / 4) tick.context tick.outcome) (row-at c p w.past)
      ∙ ap (λ (code : List ℕ). effect c (length w.past) (quiet_entry label ∷ w.past) (main_row c p w.past) (length code / 4) tick.context tick.outcome) a.code
      ∙ gives in
      let turn : thread_turn c w.past choice (main_id p) image tick ≡ record { entry = e; image = after-image } =
      ap (λ (hs : List Hold). turn_with c label image tick hs given) held ∙ ap (turn_of label image tick given) stays ∙ ap (λ (g : Effect). turn_of label image tick g false) effects in
      let next : v (suc t) ≡ turned w p (record { entry = e; image = after-image }) =
      ap (step_of c w) choose ∙ ap (λ (z : Tick). turned w p (thread_turn c w.past choice (main_id p) image z)) ticks ∙ ap (turned w p) turn in
      let there : (v (suc t)).images p ≡ after-image = ap (λ (z : World). z.images p) next ∙ update-same p after-image w.images in
      moved t o x (with_reply tick.context reply) m tick.memory e a early (ap (λ (z : World). z.past) next) plain
      (ap (λ (i : Image). i.contexts 0) there)
      (ap (λ (i : Image). i.memory) there)
      (ap (λ (i : Image). i.code) there ∙ a.code)

  -- the last of a wait, which is granted since the main holds nothing
  pub wait-tick : (t : ℕ) (o : Own) (x y : Context) (m l : List ℕ) → At c p program s t o x m → t < s + P
      → 0 < rem W o.job → phase W o.job ≡ Phase.Body → o.held ≡ []
      → body_tick c.costs.call program x m ≡ record { outcome = Outcome.CallDone KernelCall.Wait; context = y; memory = l }
      → At c p program s (suc t) (after p (waits p) o) (replied y 0 None) l
  wait-tick t o x y m l a early some in-body empty is =
      let past = (v t).past in
      let held : held_by (main_id p) past ≡ [] = ap (λ (z : Own). z.held) a.own ∙ empty in
      let self = same-self p in
      let aged : held_by (main_id p) (quiet_entry (Label.Call (main_id p)) ∷ past) ≡ [] =
      held-quiet (main_id p) (Label.Call (main_id p)) past ∙ (rw (self, held) refl) in
      body t o x m (record { outcome = Outcome.CallDone KernelCall.Wait; context = y; memory = l }) (Some Event.Wait) (Some (record { r0 = 0; r1 = None }))
      a early some in-body (ap (λ (hs : List Hold). breaks_hold c hs x (Outcome.CallDone KernelCall.Wait)) empty) is
      (ap (λ (hs : List Hold). or_refused (wait_with hs) (done Event.Wait)) aged) tt
