-- The ticks of a thread that computes, one after the other, in each of the worlds that they lead to.
use Rattle.dk_kernel.proofs.Names.{HasSlot, ℕ, zero, suc, ◌≡◌, ◌<◌, ◌∷◌, List, length, map, get_or, set, false, Some, None, refl, ap, ◌∙◌, sym, subst, arith, inl, get_or-set_same, get_or_default, set-get_or, set-set, map-set_same, Configuration, ThreadId, Choice, Work, Entry, quiet, thread_of, held_by, innermost_left, chosen, label_of, Outcome, Tick, body_tick, State, Works, WorksFor, after_tick, context_at, tick_at, Slots, Image, World, body_step, breaks_hold, executes, step, thread_turn, tick_in, turned, world, Past, choice_at, later, Dispatched, slots, Goes, AreImages, IsImage, IsRunning, code_of, no_state, run_of, state_at, IsAt, Running, running_of}
use Rattle.dk_kernel.proofs.Called.{same-rows}
use Rattle.dk_kernel.proofs.Fields.{IsLater, later-fields}
use Rattle.dk_kernel.proofs.Images.{image-finished, image_with}
use Rattle.dk_kernel.proofs.Turned.{breaks-none}
use Rattle.dk_kernel.proofs.Worlds.{images-after, keeps-images, step-body}

-- the slot's tick is the one of the world
tick_at-image : (c : Configuration) (has : Slots) (x : ThreadId) (slot cost : ℕ) (image : Image) (s : State)
    → IsImage has x.process image s → has x ≡ Some slot → c.costs.call ≡ cost → tick_at s slot cost ≡ tick_in c image x.serial
tick_at-image c has x slot cost image s i at price =
    ap (λ k. body_tick k s.code (context_at s slot) s.memory) (sym price)
    ∙ ap (λ z. body_tick c.costs.call z (context_at s slot) s.memory) i.code
    ∙ ap (λ z. body_tick c.costs.call image.code z s.memory) (i.contexts x.serial slot at)
    ∙ ap (λ z. body_tick c.costs.call image.code (image.contexts x.serial) z) i.memory

-- the turn of a thread that holds nothing and does an instruction of its own
ran-turn : (c : Configuration) (past : List Entry) (choice : Choice) (x : ThreadId) (image : Image) (tick : Tick) → innermost_left c (held_by x past) ≡ 0 → tick.outcome ≡ Outcome.Ran
    → thread_turn c past choice x image tick ≡ record { entry = quiet (label_of choice Work.Run); image = image_with image x.serial tick None None }
ran-turn c past choice x image tick free ran =
    let seen : Tick = record { outcome = Outcome.Ran; context = tick.context; memory = tick.memory } in
    let same : tick ≡ seen = ap (λ (o : Outcome). record { outcome = o; context = tick.context; memory = tick.memory }) ran in
    let whole : breaks_hold c (held_by x past) (image.contexts x.serial) Outcome.Ran ≡ false = breaks-none c (held_by x past) (image.contexts x.serial) Outcome.Ran free in
    subst (λ (t : Tick). thread_turn c past choice x image t ≡ record { entry = quiet (label_of choice Work.Run); image = image_with image x.serial t None None }) (sym same)
    (rw whole refl)

-- an image's ticks leave its program
works-code : (slot cost n : ℕ) (s last : State) → WorksFor slot cost n s last → last.code ≡ s.code
works-code slot cost zero s last same = ap (λ (t : State). t.code) (sym same)
works-code slot cost (suc n) s last works = ap (λ (t : State). t.code) works.2.after ∙ works-code slot cost n s works.0 works.1

-- on budget or with slack; contracts see the fields as k
module _ (choice : Choice) (x : ThreadId) (runs : executes choice ≡ Some x) (names : thread_of (label_of choice Work.Run) ≡ Some x) {slot cost ticks : ℕ} {d : Dispatched} {states : List State}
    {given : Configuration} {k : Running} (stands : IsAt d states (running_of given states ticks)) (view : running_of given states ticks ≡ k) (known : cost ≡ k.config.costs.call)
    (seat : HasSlot (slots d) x slot) where
  abbrev p : Past
  p = d.past

  running : IsRunning d states
  running = stands.running

  price : p.config.costs.call ≡ cost
  price = ap (λ (z : Configuration). z.costs.call) (stands.config ∙ ap (λ (v : Running). v.config) view) ∙ sym known

  abbrev has : Slots
  has = slots d

  -- the world of so many ticks later, and its images
  record Worked (n : ℕ) (s : State) : Type 0 where
    past : (run_of (later choice n p) states).past ≡ (later choice n p).entries
    images : AreImages has (run_of (later choice n p) states).images (set states x.process s)

  within : x.process < length states
  within = running.images.rows x slot seat.at

  work-more : (n : ℕ) (mid s : State) → Worked n mid → choice ≡ choice_at (later choice n p)
      → innermost_left p.config (held_by x (later choice n p).entries) ≡ 0 → Works slot cost mid s → Worked (suc n) s
  work-more n mid s before chose free works =
      let c = p.config in
      let q = x.process in
      let w = run_of (later choice n p) states in
      let image = w.images q in
      let old = set states q mid in
      let inside : q < length old = before.images.rows x slot seat.at in
      let held : IsImage has q image mid = subst (λ z. IsImage has q image z) (get_or-set_same states q mid no_state within) (before.images.each q inside) in
      let now : choice ≡ chosen c w.past = chose ∙ ap (chosen c) (sym before.past) in
      let free' : innermost_left c (held_by x w.past) ≡ 0 = subst (λ es. innermost_left c (held_by x es) ≡ 0) (sym before.past) free in
      let is : step c w ≡ body_step c choice w x = step-body c w x (sym (ap executes now) ∙ runs) ∙ ap (λ z. body_step c z w x) (sym now) in
      let seen : tick_at mid slot cost ≡ tick_in c image x.serial = tick_at-image c has x slot cost image mid held seat.at price in
      let ran : (tick_in c image x.serial).outcome ≡ Outcome.Ran = sym (ap (λ (t : Tick). t.outcome) seen) ∙ works.outcome in
      let done : step c w ≡ turned w q (record { entry = quiet (label_of choice Work.Run); image = image_with image x.serial (tick_in c image x.serial) None None }) =
      is ∙ ap (turned w q) (ran-turn c w.past choice x image (tick_in c image x.serial) free' ran) in
      let after : s ≡ after_tick mid slot (tick_in c image x.serial) = works.after ∙ ap (after_tick mid slot) seen in
      let nine = held.nine in
      let fits = seat.fits in
      let new : IsImage has q (image_with image x.serial (tick_in c image x.serial) None None) s =
      subst (λ z. IsImage has q (image_with image x.serial (tick_in c image x.serial) None None) z) (sym after)
      (image-finished has has x slot image mid (tick_in c image x.serial) None None held (omega (arith, nine, fits)) seat.at seat.own (λ y k here. here)) in
      record {
        past = ap (λ (v : World). v.past) done ∙ ap (λ es. quiet (label_of choice Work.Run) ∷ es) before.past;
        images =
            subst (λ (v : World). AreImages has v.images (set states q s)) (sym done)
            (subst (λ z. AreImages has (turned w q (record { entry = quiet (label_of choice Work.Run); image = image_with image x.serial (tick_in c image x.serial) None None })).images z) (set-set states q mid s)
            (images-after has has w.images old q (image_with image x.serial (tick_in c image x.serial) None None) s before.images inside (λ y k here. inl here) new));
      }

  worked : (n : ℕ) (s : State) → ((i : ℕ) → i < n → choice ≡ choice_at (later choice i p))
      → ((i : ℕ) → i < n → innermost_left p.config (held_by x (later choice i p).entries) ≡ 0)
      → WorksFor slot cost n (state_at states x.process) s → Worked n s
  worked zero s goes free same = record {
    past = running.run;
    images = subst (λ z. AreImages has (run_of p states).images z) (sym (set-get_or states x.process no_state) ∙ ap (set states x.process) same) running.images;
  }
  worked (suc n) s goes free works =
      work-more n works.0 s (worked n works.0 (λ i earlier. goes i (omega (arith, earlier))) (λ i earlier. free i (omega (arith, earlier))) works.1)
      (goes n (omega arith)) (free n (omega arith)) works.2

  -- the dispatcher and the images after so many ticks of the thread
  module _ (n : ℕ) (before s : State) (there : before ≡ get_or states x.process before) (works : WorksFor slot cost n before s) where
    here : before ≡ state_at states x.process
    here = there ∙ get_or_default states x.process before no_state within

    works-at : WorksFor slot cost n (state_at states x.process) s
    works-at = subst (λ z. WorksFor slot cost n z s) here works

    worked-codes : map code_of (set states x.process s) ≡ map code_of states
    worked-codes = map-set_same code_of states x.process s no_state (works-code slot cost n (state_at states x.process) s works-at)

    work-running : (d' : Dispatched) → Goes choice n p → d'.past ≡ later choice n p → d'.threads ≡ d.threads → IsRunning d' (set states x.process s)
    work-running d' goes next rows =
        let done = worked n s goes.chosen (λ i earlier. goes.free i x earlier names) works-at in
        let codes = worked-codes in
        let same : run_of (later choice n p) (set states x.process s) ≡ run_of (later choice n p) states = ap (λ ps. world_by ps) codes in
        record {
          ready = ap (λ (q : Past). q.tick) next ∙ running.ready;
          run = subst (λ (q : Past). (run_of q (set states x.process s)).past ≡ q.entries) (sym next) (ap (λ (v : World). v.past) same ∙ done.past);
          images =
              subst (λ (q : Past). AreImages (slots d') (run_of q (set states x.process s)).images (set states x.process s)) (sym next)
              (subst (λ (v : World). AreImages (slots d') v.images (set states x.process s)) (sym same)
              (keeps-images has (slots d') (run_of (later choice n p) states).images (set states x.process s) (same-rows d d' rows) done.images));
        }
      where
        world_by : List (List ℕ) → World
        world_by ps = world p.config ps (length (later choice n p).entries)

    -- and the fields of the kernel
    pub worked-later : (d' : Dispatched) → Goes choice n p → d'.past ≡ later choice n p → d'.threads ≡ d.threads → IsLater d' states (set states x.process s) given ticks n choice
    worked-later d' goes next rows = later-fields d d' given states (set states x.process s) ticks n choice stands (work-running d' goes next rows) worked-codes next
