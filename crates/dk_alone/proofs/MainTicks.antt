-- A tick of a process by itself, in two worlds that are the same for its main.
use Rattle.dk_alone.proofs.Names.{ℕ, ◌≡◌, ◌/◌, ◌<◌, inl, inr, Bool, true, false, cond, List, ◌∷◌, length, Option, Some, refl, sym, ap, ◌∙◌, subst, arith, cases_lt, Configuration, FaultKind, Phase, Choice, Label, Event, Entry, phase, rem, held_by, label_of, main_id, Context, Tick, body_tick, Effect, Child, effect, Image, World, Turn, quiet_entry, thread_at, thread_turn, breaks_hold, image_after, with_child, with_reply, update, work_done, tick_in, step_of, update-same, choice_alone, step_alone, entries_of, ReadsNoTick, nat_tests}
use Rattle.dk_alone.proofs.Own.{own, unlisted, Plain}
use Rattle.dk_alone.proofs.Same.{turn-same}
use Rattle.dk_alone.proofs.Steps.{no-tick, turn-code, alone-works, alone-rests}

-- two images have the same code and memory, and the same context of the main
pub record SameMain (i j : Image) : Type 0 where
  pub code : i.code ≡ j.code
  pub memory : i.memory ≡ j.memory
  pub context : i.contexts 0 ≡ j.contexts 0

child-main : (o : Option Child) (f g : ℕ → Context) → f 0 ≡ g 0 → with_child f o 0 ≡ with_child g o 0
child-main o f g same = grind (arith, nat_tests)

-- the turn of a main that breaks its hold, or doesn't
abbrev pick : Bool → Label → Image → Tick → Effect → Turn
pick b label image tick given =
    cond b (record { entry = record { label = label; event = Some (Event.Fault FaultKind.Hold) }; image = image })
    (record { entry = record { label = label; event = given.event }; image = image_after image 0 tick given })

record SameTurn (u u' : Turn) : Type 0 where
  entry : u.entry ≡ u'.entry
  image : SameMain u.image u'.image

picked : (b : Bool) (label : Label) (i j : Image) (tick : Tick) (given : Effect) → SameMain i j → SameTurn (pick b label i tick given) (pick b label j tick given)
picked true label i j tick given same = record { entry = refl; image = same }
picked false label i j tick given same = record {
  entry = refl;
  image = record {
    code = same.code;
    memory = refl;
    context = child-main given.child (update 0 (with_reply tick.context given.reply) i.contexts) (update 0 (with_reply tick.context given.reply) j.contexts) refl;
  };
}

-- the main's turn over one past, of two images
image-turns : (c : Configuration) (p : ℕ) (past : List Entry) (choice : Choice) (i j : Image) → SameMain i j
    → SameTurn (thread_turn c past choice (main_id p) i (tick_in c i 0)) (thread_turn c past choice (main_id p) j (tick_in c j 0))
image-turns c p past choice i j same =
    let t : Tick = tick_in c j 0 in
    let ticks : tick_in c i 0 ≡ t =
    ap (λ code. body_tick c.costs.call code (i.contexts 0) i.memory) same.code
    ∙ ap (λ z. body_tick c.costs.call j.code z i.memory) same.context
    ∙ ap (λ m. body_tick c.costs.call j.code (j.contexts 0) m) same.memory in
    let label : Label = label_of choice (work_done t.outcome) in
    let given_of : List ℕ → Effect = λ code. effect c (length past) (quiet_entry label ∷ past) (thread_at c past (main_id p)) (length code / 4) t.context t.outcome in
    let breaks : Context → Bool = λ z. breaks_hold c (held_by (main_id p) past) z t.outcome in
    let chain : thread_turn c past choice (main_id p) i (tick_in c i 0) ≡ pick (breaks (j.contexts 0)) label i t (given_of j.code) =
    ap (λ (z : Tick). thread_turn c past choice (main_id p) i z) ticks
    ∙ ap (λ (z : Context). pick (breaks z) label i t (given_of i.code)) same.context
    ∙ ap (λ (z : List ℕ). pick (breaks (j.contexts 0)) label i t (given_of z)) same.code in
    subst (λ u. SameTurn u (thread_turn c past choice (main_id p) j t)) (sym chain)
    (picked (breaks (j.contexts 0)) label i j t (given_of j.code) same)

-- both worlds have the same entry next, and the same image of the process
pub record Twins (p : ℕ) (w v w' v' : World) : Type 0 where
  pub e : Entry
  pub past : w'.past ≡ e ∷ w.past
  pub past' : v'.past ≡ e ∷ v.past
  pub image : SameMain (w'.images p) (v'.images p)
  pub code : (v'.images p).code ≡ (v.images p).code

module _ (c : Configuration) (p : ℕ) (program : List ℕ) (clock : ReadsNoTick program) (w v : World)
    (same : unlisted (own c p w.past) ≡ unlisted (own c p v.past)) (plain : Plain (entries_of p w.past)) (plain' : Plain (entries_of p v.past))
    (image : SameMain (w.images p) (v.images p)) (code : (v.images p).code ≡ program) where
  quiet-twins : (choice : Choice) (label : Label) → step_of c w choice ≡ record { past = quiet_entry label ∷ w.past; images = w.images }
      → step_of c v choice ≡ record { past = quiet_entry label ∷ v.past; images = v.images } → Twins p w v (step_of c w choice) (step_of c v choice)
  quiet-twins choice label is is' =
      subst (λ z. Twins p w v z (step_of c v choice)) (sym is)
      (subst (λ z. Twins p w v (record { past = quiet_entry label ∷ w.past; images = w.images }) z) (sym is')
      (record { e = quiet_entry label; past = refl; past' = refl; image = image; code = refl }))

  body-twins : Twins p w v (step_of c w (Choice.Budget (main_id p) Phase.Body)) (step_of c v (Choice.Budget (main_id p) Phase.Body))
  body-twins =
      let choice : Choice = Choice.Budget (main_id p) Phase.Body in
      let j : Image = v.images p in
      let one : Turn = thread_turn c w.past choice (main_id p) (w.images p) (tick_in c (w.images p) 0) in
      let between : Turn = thread_turn c w.past choice (main_id p) j (tick_in c j 0) in
      let other : Turn = thread_turn c v.past choice (main_id p) j (tick_in c j 0) in
      let alike : between ≡ other = turn-same c p w.past v.past choice j (tick_in c j 0) same plain plain' (no-tick c program j 0 clock code) in
      let turns : SameTurn one other = subst (SameTurn one) alike (image-turns c p w.past choice (w.images p) j image) in
      record {
        e = one.entry;
        past = refl;
        past' = ap (λ e. e ∷ v.past) (sym turns.entry);
        image = subst (λ z. SameMain z (update p other.image v.images p)) (sym (update-same p one.image w.images))
            (subst (λ z. SameMain one.image z) (sym (update-same p other.image v.images)) turns.image);
        code = ap (λ i. i.code) (update-same p other.image v.images) ∙ turn-code c v.past choice (main_id p) j (tick_in c j 0);
      }

  main-twins : (next : Phase) → Twins p w v (step_of c w (Choice.Budget (main_id p) next)) (step_of c v (Choice.Budget (main_id p) next))
  main-twins Phase.In = quiet-twins (Choice.Budget (main_id p) Phase.In) (Label.In (main_id p)) refl refl
  main-twins Phase.Out = quiet-twins (Choice.Budget (main_id p) Phase.Out) (Label.Out (main_id p)) refl refl
  main-twins Phase.Body = body-twins

  -- by itself the process has the same next tick in both
  pub twins : Twins p w v (step_alone c p w) (step_alone c p v)
  twins =
      elim (cases_lt 0 (rem c.costs.switch (own c p w.past).job)) [
        | inl some ↦
            let some' : 0 < rem c.costs.switch (own c p v.past).job = subst (λ o. 0 < rem c.costs.switch o.job) same some in
            let works = alone-works c p w.past some in
            let works' : choice_alone c p v.past ≡ Choice.Budget (main_id p) (phase c.costs.switch (own c p w.past).job) =
            alone-works c p v.past some' ∙ ap (λ o. Choice.Budget (main_id p) (phase c.costs.switch o.job)) (sym same) in
            subst (λ z. Twins p w v (step_of c w z) (step_alone c p v)) (sym works)
            (subst (λ z. Twins p w v (step_of c w (Choice.Budget (main_id p) (phase c.costs.switch (own c p w.past).job))) (step_of c v z)) (sym works')
            (main-twins (phase c.costs.switch (own c p w.past).job)))
        | inr none ↦
            let none0 : rem c.costs.switch (own c p w.past).job ≡ 0 = omega (arith, none) in
            let none' : rem c.costs.switch (own c p v.past).job ≡ 0 = subst (λ o. rem c.costs.switch o.job ≡ 0) same none0 in
            let rests = alone-rests c p w.past none0 in
            let rests' = alone-rests c p v.past none' in
            subst (λ z. Twins p w v (step_of c w z) (step_alone c p v)) (sym rests)
            (subst (λ z. Twins p w v (step_of c w Choice.Idle) (step_of c v z)) (sym rests') (quiet-twins Choice.Idle Label.Idle refl refl))
      ]
