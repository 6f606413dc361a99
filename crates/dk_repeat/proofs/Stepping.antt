-- One more tick of two worlds that stand alike, which doesn't read the tick.
use Rattle.dk_repeat.proofs.Names.{ℕ, ◌≡◌, ◌/◌, ◌<◌, inl, inr, true, false, eqb, List, ◌∷◌, ◌++◌, length, Option, Some, None, refl, sym, ap, ◌∙◌, subst, unwrap_or, option_map_or, eqb_tells, Configuration, IsChecked, ThreadId, Work, Choice, Label, Event, Entry, is_same, is_of, thread_of, Thread, family, main_thread, Hold, held_by, chosen, label_of, row_of, main_id, Context, Outcome, KernelCall, Tick, body_tick, Effect, effect, Image, World, Turn, quiet_entry, thread_at, executes, work_done, breaks_hold, thread_turn, tick_in, body_step, quiet_step, step_of, step, update, label-thread, turn-label}
use Rattle.dk_repeat.proofs.Since.{LevelsBegin}
use Rattle.dk_repeat.proofs.Pairs.{Pairs, Both, find-pairs}
use Rattle.dk_repeat.proofs.Twins.{Twin, held-same}
use Rattle.dk_repeat.proofs.Choosing.{chosen-same}
use Rattle.dk_repeat.proofs.Effects.{effect-same}
use Rattle.dk_repeat.proofs.Running.{Executing}
use Rattle.dk_repeat.proofs.Images.{SameImage, Picked, pick, picked, image-kept, effect-makes}

abbrev pub world_of : List Entry → (ℕ → Image) → World
world_of past images = record { past = past; images = images }

-- both worlds have the same entry, and go on alike
pub record Next (c : Configuration) (one other : List Entry) (w v : World) : Type 0 where
  pub e : Entry
  pub past : w.past ≡ e ∷ one
  pub past' : v.past ≡ e ∷ other
  pub images : (p : ℕ) → p < length c.processes → SameImage c p (e ∷ one) (w.images p) (v.images p)

apart : (p : ℕ) (x : ThreadId) (label : Label) → eqb p x.process ≡ false → thread_of label ≡ Some x → (event : Option Event) → is_of (main_id p) (record { label = label; event = event }) ≡ false
apart p x label unlike is event = ap (λ o. option_map_or (is_same (main_id p)) o false) is ∙ rw unlike refl

module _ (c : Configuration) (one other : List Entry) (begins : LevelsBegin c (length one)) (begins' : LevelsBegin c (length other))
    (held : (x : ThreadId) → held_by x one ≡ held_by x other) (checked : IsChecked c)
    (new : List Entry)
    (rows : (p : ℕ) → p < length c.processes → Pairs (Twin c (length one) (length other)) (family c p (new ++ one)) (family c p (new ++ other)))
    (f g : ℕ → Image)
    (images : (p : ℕ) → p < length c.processes → SameImage c p (new ++ one) (f p) (g p)) where
  row-twin : (x : ThreadId) (row : Thread) → x.process < length c.processes → row_of c (new ++ one) x ≡ Some row
      → Twin c (length one) (length other) (thread_at c (new ++ one) x) (thread_at c (new ++ other) x)
  row-twin x row here found =
      at (row_of c (new ++ one) x) (row_of c (new ++ other) x) found
      (find-pairs (Twin c (length one) (length other)) (λ y. is_same x y.id) (λ y. is_same x y.id) (family c x.process (new ++ one)) (family c x.process (new ++ other)) (rows x.process here)
      (λ y z t. ap (λ r. is_same x r.id) t.same))
    where
      at : (o o' : Option Thread) → o ≡ Some row → Both (Twin c (length one) (length other)) o o'
          → Twin c (length one) (length other) (unwrap_or o (main_thread c x.process)) (unwrap_or o' (main_thread c x.process))
      at (Some y) (Some z) is both = both
      at (Some y) None is both = absurd both
      at None o' is both = absurd (cc)

  tick-same : (p : ℕ) (x : ThreadId) → SameImage c p (new ++ one) (f p) (g p) → (f p).contexts x.serial ≡ (g p).contexts x.serial
      → tick_in c (f p) x.serial ≡ tick_in c (g p) x.serial
  tick-same p x same context =
      ap (λ code. body_tick c.costs.call code ((f p).contexts x.serial) (f p).memory) same.code
      ∙ ap (λ z. body_tick c.costs.call (g p).code z (f p).memory) context
      ∙ ap (λ m. body_tick c.costs.call (g p).code ((g p).contexts x.serial) m) same.memory

  turns-same : (choice : Choice) (x : ThreadId) → Executing c (new ++ one) x
      → ((tick_in c (f x.process) x.serial).outcome ≡ Outcome.CallDone KernelCall.Time → ⊥)
      → Picked c x.process (new ++ one) (thread_turn c (new ++ one) choice x (f x.process) (tick_in c (f x.process) x.serial))
      (thread_turn c (new ++ other) choice x (g x.process) (tick_in c (g x.process) x.serial))
  turns-same choice x ex no_tick =
      let p = x.process in
      let i : Image = f p in
      let j : Image = g p in
      let same = images p ex.process in
      let context : i.contexts x.serial ≡ j.contexts x.serial = subst (λ (z : ThreadId). i.contexts z.serial ≡ j.contexts z.serial) ex.name (same.contexts ex.live ex.has ex.running) in
      let ticks : tick_in c i x.serial ≡ tick_in c j x.serial = tick-same p x same context in
      let t : Tick = tick_in c j x.serial in
      let label : Label = label_of choice (work_done t.outcome) in
      let no_tick' : t.outcome ≡ Outcome.CallDone KernelCall.Time → ⊥ = subst (λ (z : Tick). z.outcome ≡ Outcome.CallDone KernelCall.Time → ⊥) ticks no_tick in
      let given : Effect = effect c (length (new ++ one)) (quiet_entry label ∷ (new ++ one)) (thread_at c (new ++ one) x) (length i.code / 4) t.context t.outcome in
      let given' : Effect = effect c (length (new ++ other)) (quiet_entry label ∷ (new ++ other)) (thread_at c (new ++ other) x) (length j.code / 4) t.context t.outcome in
      let effects : given ≡ given' =
      ap (λ (code : List ℕ). effect c (length (new ++ one)) (quiet_entry label ∷ (new ++ one)) (thread_at c (new ++ one) x) (length code / 4) t.context t.outcome) same.code
      ∙ effect-same c one other begins begins' held checked new rows label (thread_at c (new ++ one) x) (thread_at c (new ++ other) x) (row-twin x ex.row ex.process ex.found)
      (length j.code / 4) t.context t.outcome no_tick' in
      let breaks : breaks_hold c (held_by x (new ++ one)) (i.contexts x.serial) t.outcome ≡ breaks_hold c (held_by x (new ++ other)) (j.contexts x.serial) t.outcome =
      ap (λ (hs : List Hold). breaks_hold c hs (i.contexts x.serial) t.outcome) (held-same x one other new (held x))
      ∙ ap (λ (z : Context). breaks_hold c (held_by x (new ++ other)) z t.outcome) context in
      let chain : thread_turn c (new ++ one) choice x i (tick_in c i x.serial) ≡ pick (breaks_hold c (held_by x (new ++ other)) (j.contexts x.serial) t.outcome) label i x.serial t given' =
      ap (λ (z : Tick). thread_turn c (new ++ one) choice x i z) ticks
      ∙ ap (λ b. pick b label i x.serial t given) breaks
      ∙ ap (λ z. pick (breaks_hold c (held_by x (new ++ other)) (j.contexts x.serial) t.outcome) label i x.serial t z) effects in
      subst (λ u. Picked c p (new ++ one) u (thread_turn c (new ++ other) choice x j t)) (sym chain)
      (picked c p (new ++ one) (breaks_hold c (held_by x (new ++ other)) (j.contexts x.serial) t.outcome) label i j x.serial t given' same
      (effect-makes c (length (new ++ other)) (quiet_entry label ∷ (new ++ other)) (thread_at c (new ++ other) x) (length j.code / 4) t.context t.outcome))

  body-next : (choice : Choice) (x : ThreadId) → executes choice ≡ Some x → Executing c (new ++ one) x
      → ((tick_in c (f x.process) x.serial).outcome ≡ Outcome.CallDone KernelCall.Time → ⊥)
      → Next c (new ++ one) (new ++ other) (body_step c choice (world_of (new ++ one) f) x) (body_step c choice (world_of (new ++ other) g) x)
  body-next choice x runs ex no_tick =
      let t : Tick = tick_in c (f x.process) x.serial in
      let turn : Turn = thread_turn c (new ++ one) choice x (f x.process) t in
      let turn' : Turn = thread_turn c (new ++ other) choice x (g x.process) (tick_in c (g x.process) x.serial) in
      let both : Picked c x.process (new ++ one) turn turn' = turns-same choice x ex no_tick in
      record {
        e = turn.entry;
        past = refl;
        past' = ap (λ z. z ∷ (new ++ other)) (sym both.entry);
        images = λ p here. at turn turn' both (turn-label c (new ++ one) choice x (f x.process) t ∙ refl) (label-thread choice (work_done t.outcome) x runs) p here;
      }
    where
      at : (turn turn' : Turn) → Picked c x.process (new ++ one) turn turn' → {label : Label} → turn.entry.label ≡ label → thread_of label ≡ Some x → (p : ℕ) → p < length c.processes
          → SameImage c p (turn.entry ∷ (new ++ one)) (update x.process turn.image f p) (update x.process turn'.image g p)
      at turn turn' both is names p here =
          elim (eqb_tells p x.process) [
            | inl (mine, same) ↦
                rw mine (subst (λ q. SameImage c q (turn.entry ∷ (new ++ one)) turn.image turn'.image) (sym same) both.image)
            | inr (unlike, differ) ↦
                let off : is_of (main_id p) turn.entry ≡ false = apart p x turn.entry.label unlike (ap thread_of is ∙ names) turn.entry.event in
                rw unlike (image-kept c p turn.entry (new ++ one) (f p) (g p) (λ s level quota mine event. absurd (let never : true ≡ false = sym mine ∙ off in cc)) (images p here))
          ]

  quiet-next : (label : Label) → Next c (new ++ one) (new ++ other) (world_of (quiet_entry label ∷ (new ++ one)) f) (world_of (quiet_entry label ∷ (new ++ other)) g)
  quiet-next label = record {
    e = quiet_entry label;
    past = refl;
    past' = refl;
    images = λ p here. image-kept c p (quiet_entry label) (new ++ one) (f p) (g p) (λ s level quota mine event. absurd (cc)) (images p here);
  }

  next-by : (choice : Choice) (o : Option ThreadId) → executes choice ≡ o
      → ((x : ThreadId) → executes choice ≡ Some x → Executing c (new ++ one) x)
      → ((x : ThreadId) → executes choice ≡ Some x → (tick_in c (f x.process) x.serial).outcome ≡ Outcome.CallDone KernelCall.Time → ⊥)
      → Next c (new ++ one) (new ++ other) (option_map_or (body_step c choice (world_of (new ++ one) f)) o (quiet_step choice (world_of (new ++ one) f)))
      (option_map_or (body_step c choice (world_of (new ++ other) g)) o (quiet_step choice (world_of (new ++ other) g)))
  next-by choice None runs ex no_tick = quiet-next (label_of choice Work.Run)
  next-by choice (Some x) runs ex no_tick = body-next choice x runs (ex x runs) (no_tick x runs)

  pub next : ((x : ThreadId) → executes (chosen c (new ++ one)) ≡ Some x → Executing c (new ++ one) x)
      → ((x : ThreadId) → executes (chosen c (new ++ one)) ≡ Some x → (tick_in c (f x.process) x.serial).outcome ≡ Outcome.CallDone KernelCall.Time → ⊥)
      → Next c (new ++ one) (new ++ other) (step c (world_of (new ++ one) f)) (step c (world_of (new ++ other) g))
  next ex no_tick =
      let choice : Choice = chosen c (new ++ one) in
      subst (λ z. Next c (new ++ one) (new ++ other) (step_of c (world_of (new ++ one) f) choice) (step_of c (world_of (new ++ other) g) z))
      (chosen-same c one other begins begins' held checked new rows)
      (next-by choice (executes choice) refl ex no_tick)

  -- the other world's next tick is the same instruction
  pub no-tick-either : ((x : ThreadId) → executes (chosen c (new ++ one)) ≡ Some x → Executing c (new ++ one) x)
      → ((x : ThreadId) → executes (chosen c (new ++ one)) ≡ Some x → (tick_in c (f x.process) x.serial).outcome ≡ Outcome.CallDone KernelCall.Time → ⊥)
      → (x : ThreadId) → executes (chosen c (new ++ other)) ≡ Some x → (tick_in c (g x.process) x.serial).outcome ≡ Outcome.CallDone KernelCall.Time → ⊥
  no-tick-either ex no_tick x runs is =
      let runs' : executes (chosen c (new ++ one)) ≡ Some x = ap executes (chosen-same c one other begins begins' held checked new rows) ∙ runs in
      let exe = ex x runs' in
      let same = images x.process exe.process in
      let context : (f x.process).contexts x.serial ≡ (g x.process).contexts x.serial =
      subst (λ (z : ThreadId). (f x.process).contexts z.serial ≡ (g x.process).contexts z.serial) exe.name (same.contexts exe.live exe.has exe.running) in
      no_tick x runs' (ap (λ (t : Tick). t.outcome) (tick-same x.process x same context) ∙ is)
