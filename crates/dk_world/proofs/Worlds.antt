-- What is true of the world of a run at each tick: its entries name what is there, and its registers and memories hold words.
use Rattle.dk_world.proofs.Names.{ℕ, zero, suc, ◌≡◌, ◌+◌, ◌∙◌, ◌/◌, ◌<◌, ◌≤◌, inl, inr, true, List, ◌∷◌, length, refl, sym, ap, subst, arith, IfSome, All, slice_index_or, ◌==◌, AllByRecursion, cases_lt, nat_tests, get_or_past, All-set, All-nil, All-replicate, MAX_RUN_TICKS, Configuration, IsChecked, IsWithinLimits, IsAccepted, budget, memory, FaultKind, ThreadId, Phase, Work, Source, Label, Choice, Event, Entry, is_same, is_of, thread_of, Thread, main_thread, family, held_by, chosen, label_of, work_of, row_of, Context, Outcome, Tick, replied, Reply, Child, Effect, effect, Image, World, Turn, update, quiet_entry, thread_at, work_done, breaks_hold, with_reply, with_child, image_after, thread_turn, tick_in, body_step, quiet_step, step_of, world, trace, size_of, HasThread, HasLabel, HasEvent, HasOwnEvent, IsExecuting}
use Rattle.std.proofs.Common.{[]}
use Rattle.std.specs.Prelude.{Option, Some, None}
use Rattle.dk_world.proofs.Each.{either, some_or, each_find}
use Rattle.dk_world.proofs.Registers.{IsWord, Words, Bytes, IsWordTick, ticked}
use Rattle.dk_world.proofs.Families.{main_id, LendsWithin, IsSound, IsThread, family_each, HasChoice, label_within, chosen_within}
use Rattle.dk_world.proofs.Effects.{IsWordReply, IsGiven, effect_given}

pub record IsImage (image : Image) : Type 0 where
  pub code : Bytes image.code
  pub memory : Words image.memory
  pub contexts : (serial : ℕ) → Words (image.contexts serial).regs

pub record IsWorld (c : Configuration) (w : World) : Type 0 where
  pub past : AllByRecursion (IsSound c) w.past
  pub images : (p : ℕ) → IsImage (w.images p)

updated : {A : Type 0} (P : A → Type 0) (at : ℕ) (value : A) (f : ℕ → A) → P value → ((n : ℕ) → P (f n)) → (n : ℕ) → P (update at value f n)
updated P at value f v g n = either P (n == at) value (f n) v (g n)

answered : (x : Context) (r0 : ℕ) (r1 : Option ℕ) → Words x.regs → IsWord r0 → IfSome r1 IsWord → Words (replied x r0 r1).regs
answered x r0 None w a b = All-set IsWord x.regs 0 r0 a w
answered x r0 (Some r1) w a b = All-set IsWord _ 1 r1 b (All-set IsWord x.regs 0 r0 a w)

replying : (x : Context) (o : Option Reply) → Words x.regs → IfSome o IsWordReply → Words (with_reply x o).regs
replying x None w r = w
replying x (Some reply) w r = answered x reply.r0 reply.r1 w r.0 r.1

bearing : (contexts : ℕ → Context) (o : Option Child) → ((s : ℕ) → Words (contexts s).regs) → IfSome o (λ y. Words y.context.regs)
    → (s : ℕ) → Words (with_child contexts o s).regs
bearing contexts None w b = w
bearing contexts (Some child) w b = updated (λ (y : Context). Words y.regs) child.serial child.context contexts b w

image_next : (image : Image) (serial : ℕ) (tick : Tick) (given : Effect) → IsImage image → IsWordTick tick → IfSome given.reply IsWordReply
    → IfSome given.child (λ y. Words y.context.regs) → IsImage (image_after image serial tick given)
image_next image serial tick given is words r b = grind (arith, nat_tests, bearing, updated, Words, replying)

-- the choice lets thread x execute
record Acts (c : Configuration) (choice : Choice) (x : ThreadId) : Type 0 where
  ranges : HasChoice c choice
  named : HasThread (size_of c) x
  body : (outcome : Outcome) → IsExecuting (work_of (label_of choice (work_done outcome)))
  whose : (outcome : Outcome) → thread_of (label_of choice (work_done outcome)) ≡ Some x

has_event : (c : Configuration) (label : Label) (o : Option Event) → IsExecuting (work_of label) → IfSome o (HasEvent (size_of c)) → HasOwnEvent (size_of c) label o
has_event c label o body r = grind (arith, nat_tests)

same_process : (p : ℕ) (x : ThreadId) (e : Entry) → thread_of e.label ≡ Some x → is_of (main_id p) e ≡ true → x.process ≡ p
same_process p x e whose mine = grind (arith, nat_tests)

module _ (c : Configuration) (checked : IsChecked c) (limits : IsWithinLimits c) (accepted : IsAccepted c) where
  quiet_sound : (label : Label) → HasLabel (size_of c) label → IsSound c (quiet_entry label)
  quiet_sound label r = record { ranges = record { label = r; event = tt }; lends = λ p mine. tt }

  at_thread : (past : List Entry) (x : ThreadId) → AllByRecursion (IsSound c) past → IsThread c x.process (thread_at c past x)
  at_thread past x sound =
      some_or (IsThread c x.process) (row_of c past x) (main_thread c x.process)
      (each_find (IsThread c x.process) (λ y. is_same x y.id) (family c x.process past) (family_each c x.process past sound))
      (record { process = refl; serial = omega arith; quota = omega arith })

  given_at : (p now : ℕ) (past : List Entry) (y : Thread) (instructions : ℕ) (context : Context) (outcome : Outcome) → AllByRecursion (IsSound c) past
      → now ≤ MAX_RUN_TICKS → length past ≤ MAX_RUN_TICKS + 1 → IsThread c p y → p < length c.processes → Words context.regs
      → IsGiven c p (effect c now past y instructions context outcome)
  given_at p now past y instructions context outcome sound early short is here words =
      subst (λ k. IsGiven c k (effect c now past y instructions context outcome)) is.process
      (effect_given c checked limits accepted now past sound early short y (subst (λ k. k < length c.processes) (sym is.process) here)
      (subst (λ k. y.quota ≤ budget c k) (sym is.process) is.quota) context words instructions outcome)

  abbrev IsTurn : Turn → Type 0
  IsTurn t = IsSound c t.entry × IsImage t.image

  turn_is : (past : List Entry) (choice : Choice) (x : ThreadId) (image : Image) (tick : Tick) → AllByRecursion (IsSound c) past → length past ≤ MAX_RUN_TICKS
      → Acts c choice x → IsImage image → IsWordTick tick → IsTurn (thread_turn c past choice x image tick)
  turn_is past choice x image tick sound short acts is words =
      let label = label_of choice (work_done tick.outcome) in
      let known_label : HasLabel (size_of c) label = label_within c choice (work_done tick.outcome) acts.ranges in
      let known = acts.named.0 in
      let y = thread_at c past x in
      let given = effect c (length past) (quiet_entry label ∷ past) y (length image.code / 4) tick.context tick.outcome in
      let good : IsGiven c x.process given =
      given_at x.process (length past) (quiet_entry label ∷ past) y (length image.code / 4) tick.context tick.outcome (quiet_sound label known_label, sound) short
      (omega (arith, short)) (at_thread past x sound) (known) words.0 in
      let broken : Entry = record { label = label; event = Some (Event.Fault FaultKind.Hold) } in
      let made : Entry = record { label = label; event = given.event } in
      either IsTurn (breaks_hold c (held_by x past) (image.contexts x.serial) tick.outcome) (record { entry = broken; image = image })
      (record { entry = made; image = image_after image x.serial tick given })
      (record { ranges = record { label = known_label; event = (acts.body tick.outcome, tt) }; lends = λ p mine. tt }, is) (
        record {
          ranges = record { label = known_label; event = has_event c label given.event (acts.body tick.outcome) good.event };
          lends = λ p mine. subst (λ k. IfSome given.event (LendsWithin c k)) (same_process p x made (acts.whose tick.outcome) mine) good.lends;
        },
        image_next image x.serial tick given is words good.reply good.child,
      )

  body_is : (choice : Choice) (w : World) (x : ThreadId) → length w.past ≤ MAX_RUN_TICKS → Acts c choice x → IsWorld c w → IsWorld c (body_step c choice w x)
  body_is choice w x short acts is =
      let image = w.images x.process in
      let good = is.images x.process in
      let turn = turn_is w.past choice x image (tick_in c image x.serial) is.past short acts good
      (ticked (image.contexts x.serial) image.memory (good.contexts x.serial) good.memory c.costs.call image.code good.code) in
      record {
        past = (turn.0, is.past);
        images = updated IsImage x.process (thread_turn c w.past choice x image (tick_in c image x.serial)).image w.images turn.1 is.images;
      }

  quiet_is : (choice : Choice) (w : World) → HasChoice c choice → IsWorld c w → IsWorld c (quiet_step choice w)
  quiet_is choice w r is = record { past = (quiet_sound (label_of choice Work.Run) (label_within c choice Work.Run r), is.past); images = is.images }

  budget_acts : (x : ThreadId) → HasThread (size_of c) x → Acts c (Choice.Budget x Phase.Body) x
  budget_acts x r = record { ranges = r; named = r; body = body; whose = whose }
    where
      body : (outcome : Outcome) → IsExecuting (work_of (label_of (Choice.Budget x Phase.Body) (work_done outcome)))
      body Outcome.Ran = tt
      body Outcome.InCall = tt
      body (Outcome.CallDone call) = tt
      body (Outcome.Fault kind) = tt

      whose : (outcome : Outcome) → thread_of (label_of (Choice.Budget x Phase.Body) (work_done outcome)) ≡ Some x
      whose Outcome.Ran = refl
      whose Outcome.InCall = refl
      whose (Outcome.CallDone call) = refl
      whose (Outcome.Fault kind) = refl

  slack_acts : (x : ThreadId) (source : Source) → HasChoice c (Choice.Slack x source Phase.Body) → Acts c (Choice.Slack x source Phase.Body) x
  slack_acts x source r = record { ranges = r; named = r.0; body = body; whose = whose }
    where
      body : (outcome : Outcome) → IsExecuting (work_of (label_of (Choice.Slack x source Phase.Body) (work_done outcome)))
      body Outcome.Ran = tt
      body Outcome.InCall = tt
      body (Outcome.CallDone call) = tt
      body (Outcome.Fault kind) = tt

      whose : (outcome : Outcome) → thread_of (label_of (Choice.Slack x source Phase.Body) (work_done outcome)) ≡ Some x
      whose Outcome.Ran = refl
      whose Outcome.InCall = refl
      whose (Outcome.CallDone call) = refl
      whose (Outcome.Fault kind) = refl

  step_is : (choice : Choice) (w : World) → length w.past ≤ MAX_RUN_TICKS → HasChoice c choice → IsWorld c w → IsWorld c (step_of c w choice)
  step_is (Choice.Kernel k) w short r is = quiet_is (Choice.Kernel k) w r is
  step_is (Choice.Budget x Phase.In) w short r is = quiet_is (Choice.Budget x Phase.In) w r is
  step_is (Choice.Budget x Phase.Body) w short r is = body_is (Choice.Budget x Phase.Body) w x short (budget_acts x r) is
  step_is (Choice.Budget x Phase.Out) w short r is = quiet_is (Choice.Budget x Phase.Out) w r is
  step_is (Choice.Slack x source Phase.In) w short r is = quiet_is (Choice.Slack x source Phase.In) w r is
  step_is (Choice.Slack x source Phase.Body) w short r is = body_is (Choice.Slack x source Phase.Body) w x short (slack_acts x source r) is
  step_is (Choice.Slack x source Phase.Out) w short r is = quiet_is (Choice.Slack x source Phase.Out) w r is
  step_is Choice.Idle w short r is = quiet_is Choice.Idle w r is

  step_long : (choice : Choice) (w : World) → length (step_of c w choice).past ≡ suc (length w.past)
  step_long choice w = grind (arith, nat_tests)

  module _ (programs : List (List ℕ)) (bytes : All Bytes programs) where
    code_bytes : (p : ℕ) → Bytes (slice_index_or programs p [])
    code_bytes p =
        elim (cases_lt p (length programs)) [
          | inl there ↦ bytes p [] there
          | inr past ↦ subst Bytes (sym (get_or_past programs p [] past)) (All-nil (λ b. b < 256))
        ]

    pub trace_long : (n : ℕ) → length (trace c programs n) ≡ n
    trace_long zero = refl
    trace_long (suc n) = step_long (chosen c (trace c programs n)) (world c programs n) ∙ ap suc (trace_long n)

    pub world_is : (n : ℕ) → n ≤ MAX_RUN_TICKS → IsWorld c (world c programs n)
    world_is zero within =
        record {
          past = tt;
          images = λ p. record {
            code = code_bytes p;
            memory = All-replicate IsWord (memory c p) 0 (omega arith);
            contexts = λ serial. All-replicate IsWord 8 0 (omega arith);
          };
        }
    world_is (suc n) within =
        let before = world_is n (omega (arith, within)) in
        let long = trace_long n in
        step_is (chosen c (trace c programs n)) (world c programs n) (omega (arith, long, within)) (chosen_within c (trace c programs n) before.past) before
