-- Two images of a process that are the same as far as its threads can see, and stay so in a tick.
use Rattle.dk_repeat.proofs.Names.{ℕ, ◌≡◌, inl, inr, Bool, true, false, cond, eqb, List, ◌∷◌, length, Option, Some, None, refl, sym, ap, ◌∙◌, subst, arith, cases_Bool, nat_tests, option_or, then_some, Configuration, option_or-none, FaultKind, ThreadId, Label, Event, Entry, Has, is_of, stops, Thread, family, made_by, new_rows, main_id, has-next, Context, Outcome, Tick, reg, Effect, Child, effect, creates, child_context, Image, Turn, image_after, with_child, with_reply, update}
use Rattle.dk_world.proofs.Effected.{IsPlain, call-has}

-- code, memory, and the contexts of the threads that weren't stopped
pub record SameImage (c : Configuration) (p : ℕ) (past : List Entry) (i j : Image) : Type 0 where
  pub code : i.code ≡ j.code
  pub memory : i.memory ≡ j.memory
  pub contexts : (y : Thread) → Has (family c p past) y → y.stop ≡ None → i.contexts y.id.serial ≡ j.contexts y.id.serial

-- where a thread that runs after an entry comes from
data Came (c : Configuration) (p : ℕ) (e : Entry) (past : List Entry) (row : Thread) : Type 0 where
  stayed : (y : Thread) → Has (family c p past) y → y.stop ≡ None → y.id ≡ row.id → Came c p e past row
  made : is_of (main_id p) e ≡ true → (level quota : ℕ) → e.event ≡ Some (Event.Create row.id.serial level quota) → Came c p e past row

made-from : (c : Configuration) (p n : ℕ) (event : Option Event) (row : Thread) → Has (made_by c p n event) row
    → (level : ℕ) × ((quota : ℕ) × (event ≡ Some (Event.Create row.id.serial level quota)))
made-from c p n None row h = absurd h
made-from c p n (Some (Event.Create serial level quota)) row (inl is) =
    (level, (quota, ap (λ (y : Thread). Some (Event.Create y.id.serial level quota)) is))
made-from c p n (Some (Event.Create serial level quota)) row (inr never) = absurd never
made-from c p n (Some event) row h = absurd h

came : (c : Configuration) (p : ℕ) (e : Entry) (past : List Entry) (row : Thread) → Has (family c p (e ∷ past)) row → row.stop ≡ None → Came c p e past row
came c p e past row h running =
    elim (has-next e (length past) (family c p past) (new_rows c p e past) row h) [
      | inl old ↦
          let y : Thread = old.0 in
          let stop : option_or y.stop (then_some (stops y.id e) (length past)) ≡ None = ap (λ (z : Thread). z.stop) old.2 ∙ running in
          stayed y old.1 (option_or-none y.stop (then_some (stops y.id e) (length past)) stop) (ap (λ (z : Thread). z.id) old.2)
      | inr new ↦
          elim (cases_Bool (is_of (main_id p) e)) [
            | inl mine ↦
                let h' : Has (made_by c p (length past) e.event) row = rw mine at new in
                let m = made-from c p (length past) e.event row h' in
                made mine m.0 m.1.0 m.1.1
            | inr other ↦ let h' : ⊥ = rw other at new in absurd h'
          ]
    ]

-- an entry that makes no thread of the process
pub image-kept : (c : Configuration) (p : ℕ) (e : Entry) (past : List Entry) (i j : Image)
    → ((serial level quota : ℕ) → is_of (main_id p) e ≡ true → e.event ≡ Some (Event.Create serial level quota) → ⊥)
    → SameImage c p past i j → SameImage c p (e ∷ past) i j
image-kept c p e past i j none same =
    record { code = same.code; memory = same.memory; contexts = λ row has running. at row (came c p e past row has running) }
  where
    at : (row : Thread) → Came c p e past row → i.contexts row.id.serial ≡ j.contexts row.id.serial
    at row (stayed y has running is) = subst (λ (z : ThreadId). i.contexts z.serial ≡ j.contexts z.serial) is (same.contexts y has running)
    at row (made mine level quota is) = absurd (none row.id.serial level quota mine is)

-- an effect whose event is a create has that child
abbrev pub Makes : Effect → Type 0
Makes f = (serial level quota : ℕ) → f.event ≡ Some (Event.Create serial level quota) → (context : Context) × (f.child ≡ Some (record { serial = serial; context = context }))

creates-makes : (next : ℕ) (context : Context) → Makes (creates next context)
creates-makes next context = λ serial level quota is.
    let same : next ≡ serial = cc in
    (child_context (reg context 3) (reg context 4), ap (λ k. Some (record { serial = k; context = child_context (reg context 3) (reg context 4) })) same)

pub effect-makes : (c : Configuration) (now : ℕ) (past : List Entry) (x : Thread) (instructions : ℕ) (context : Context) (outcome : Outcome)
    → Makes (effect c now past x instructions context outcome)
effect-makes c now past x instructions context Outcome.Ran = λ serial level quota is. absurd (cc)
effect-makes c now past x instructions context Outcome.InCall = λ serial level quota is. absurd (cc)
effect-makes c now past x instructions context (Outcome.Fault kind) = λ serial level quota is. absurd (cc)
effect-makes c now past x instructions context (Outcome.CallDone call) =
    call-has Makes context (λ why s l q is. absurd (cc)) (λ event plain s l q is. let create : event ≡ Event.Create s l q = cc in absurd (subst IsPlain create plain))
    (λ serial. creates-makes serial context) (λ value s l q is. absurd (cc)) c now past x instructions call

bearing : (o : Option Child) (f g : ℕ → Context) (s : ℕ) → f s ≡ g s → with_child f o s ≡ with_child g o s
bearing None f g s same = same
bearing (Some child) f g s same = ap (λ k. cond (eqb s child.serial) child.context k) same

born : (f g : ℕ → Context) (s : ℕ) (o : Option Child) (context : Context) → o ≡ Some (record { serial = s; context = context }) → with_child f o s ≡ with_child g o s
born f g s o context is =
    let here : eqb s s ≡ true = grind (arith, nat_tests) in
    ap (λ z. with_child f z s) is ∙ ap (λ b. cond b context (f s)) here ∙ sym (ap (λ b. cond b context (g s)) here) ∙ sym (ap (λ z. with_child g z s) is)

-- the turn of a thread that breaks its hold, or doesn't
abbrev pub pick : Bool → Label → Image → ℕ → Tick → Effect → Turn
pick b label image serial tick given =
    cond b (record { entry = record { label = label; event = Some (Event.Fault FaultKind.Hold) }; image = image })
    (record { entry = record { label = label; event = given.event }; image = image_after image serial tick given })

pub record Picked (c : Configuration) (p : ℕ) (past : List Entry) (u u' : Turn) : Type 0 where
  pub entry : u.entry ≡ u'.entry
  pub image : SameImage c p (u.entry ∷ past) u.image u'.image

pub picked : (c : Configuration) (p : ℕ) (past : List Entry) (b : Bool) (label : Label) (i j : Image) (serial : ℕ) (tick : Tick) (given : Effect)
    → SameImage c p past i j → Makes given → Picked c p past (pick b label i serial tick given) (pick b label j serial tick given)
picked c p past true label i j serial tick given same makes = record {
  entry = refl;
  image = image-kept c p (record { label = label; event = Some (Event.Fault FaultKind.Hold) }) past i j (λ s level quota mine is. cc) same;
}
picked c p past false label i j serial tick given same makes = record {
  entry = refl;
  image = record { code = same.code; memory = refl; contexts = λ row has running. at row (came c p (record { label = label; event = given.event }) past row has running) };
}
  where
    at : (row : Thread) → Came c p (record { label = label; event = given.event }) past row
        → (image_after i serial tick given).contexts row.id.serial ≡ (image_after j serial tick given).contexts row.id.serial
    at row (stayed y has running is) =
        let before : i.contexts row.id.serial ≡ j.contexts row.id.serial = subst (λ (z : ThreadId). i.contexts z.serial ≡ j.contexts z.serial) is (same.contexts y has running) in
        bearing given.child (update serial (with_reply tick.context given.reply) i.contexts) (update serial (with_reply tick.context given.reply) j.contexts) row.id.serial
        (ap (λ k. cond (eqb row.id.serial serial) (with_reply tick.context given.reply) k) before)
    at row (made mine level quota is) =
        let m = makes row.id.serial level quota is in
        born (update serial (with_reply tick.context given.reply) i.contexts) (update serial (with_reply tick.context given.reply) j.contexts) row.id.serial given.child m.0 m.1
