-- A tick goes from the world of the run to its next one.
use Rattle.dk_kernel.proofs.Names.{HasSlot, ℕ, ◌≡◌, ◌+◌, ◌*◌, ◌/◌, ◌∷◌, ◌∙◌, ◌<◌, ◌≤◌, Bool, true, false, List, length, map, Option, Some, None, option_map, get_or, arith, refl, ap, sym, subst, slice_set, get_or_default, map-set_same, FaultKind, ThreadId, Event, Entry, held_by, Audited, Follows, Tick, body_tick, State, after_tick, context_at, tick_at, IsRuled, moved, stopped, entry_of, Keeps, StepsAreAudited, Effect, effect, Image, Turn, World, breaks_hold, executes, image_after, step, thread_turn, tick_in, turned, world, Past, Ready, charged, choice_at, closed, opened, Dispatched, slots, Executor, Answer, Done, NewChild, snapshot, IsShut, HasRows, after_told, caller, child_of, effect_of, finished, label_at, reply_of, with_label, HasTurned, MayTurn, breaks_at, turn_effect, turn_entry, turn_label, turn_state, AreImages, HasBooked, IsImage, IsRunning, MayBook, code_of, next_world, no_state, run_of, world_at}
use Rattle.dk_kernel.proofs.Called.{same-rows}
use Rattle.dk_kernel.proofs.Images.{context_at-after_tick, finished-code, image-finished, keeps-image}
use Rattle.dk_kernel.proofs.Steps.{stopped-moved, sum-of-steps}
use Rattle.dk_kernel.proofs.Worlds.{elsewhere, images-after, keeps-images, step-body}

no-answer : (a : Option Answer) → option_map reply_of a ≡ None → a ≡ None
no-answer None h = refl
no-answer (Some a) h = absurd (cc)

no-child : (a : Option NewChild) → option_map child_of a ≡ None → a ≡ None
no-child None h = refl
no-child (Some a) h = absurd (cc)

few-steps : (L s before between after : ℕ) → between ≤ before + 4 * L → after ≤ between + 3 + 2 * L + s → after ≤ before + 3 + 6 * L + s
few-steps L s before between after first second = omega (arith, first, second)

-- a thread's turn
module _ (executor : Executor) (old : Dispatched) (states : List State) (default : State) (may : MayBook old states executor.cost)
    (ruled : IsRuled old.past.config old.past.entries) (audits : StepsAreAudited)
    (runs : executes (choice_at old.past) ≡ Some executor.thread) (seat : HasSlot (slots old) executor.thread executor.slot) where
  abbrev x : ThreadId
  x = executor.thread

  abbrev slot : ℕ
  slot = executor.slot

  abbrev p : Past
  p = old.past

  abbrev w : World
  w = world_at p states

  abbrev image : Image
  image = w.images x.process

  abbrev state : State
  state = get_or states x.process default

  abbrev tick : Tick
  tick = tick_in p.config image x.serial

  abbrev seen : Tick
  seen = tick_at state slot executor.cost

  abbrev turn : Turn
  turn = thread_turn p.config p.entries (choice_at p) x image tick

  abbrev breaks : Bool
  breaks = breaks_at executor p state

  pub within : x.process < length states
  within = may.running.images.rows x slot seat.at

  tied : IsImage (slots old) x.process image state
  tied = subst (λ z. IsImage (slots old) x.process image z) (get_or_default states x.process no_state default within) (may.running.images.each x.process within)

  -- the slot's tick is the one of the world
  same-tick : seen ≡ tick
  same-tick =
      ap (λ k. body_tick k state.code (context_at state slot) state.memory) (sym may.price)
      ∙ ap (λ z. body_tick p.config.costs.call z (context_at state slot) state.memory) tied.code
      ∙ ap (λ z. body_tick p.config.costs.call image.code z state.memory) (tied.contexts x.serial slot seat.at)
      ∙ ap (λ z. body_tick p.config.costs.call image.code (image.contexts x.serial) z) tied.memory

  breaks-is : breaks ≡ breaks_hold p.config (held_by x p.entries) (image.contexts x.serial) tick.outcome
  breaks-is =
      ap (λ z. breaks_hold p.config (held_by x p.entries) z seen.outcome) (tied.contexts x.serial slot seat.at)
      ∙ ap (λ (t : Tick). breaks_hold p.config (held_by x p.entries) (image.contexts x.serial) t.outcome) same-tick

  next-is : next_world p states ≡ turned w x.process turn
  next-is = step-body p.config w x runs

  turn-follows : Follows p.config p.entries turn.entry
  turn-follows =
      (subst (λ (v : World). Audited p.config v.past) next-is (audits p.config w ruled.checked ruled.accepted ruled.audited)).1

  abbrev effect_by : List ℕ → Tick → Effect
  effect_by code t = effect p.config (length p.entries) (with_label p (label_at p t.outcome)) (caller p x) (length code / 4) t.context t.outcome

  abbrev whole_by : List ℕ → Tick → Turn
  whole_by code t = record {
    entry = entry_of (label_at p t.outcome) (effect_by code t).event;
    image = image_after image x.serial tick (effect_by code t);
  }

  abbrev broken_by : Tick → Turn
  broken_by t = record { entry = entry_of (label_at p t.outcome) (Some (Event.Fault FaultKind.Hold)); image = image }

  abbrev turn_by : Bool → Turn
  turn_by true = broken_by seen
  turn_by false = whole_by state.code seen

  turn-is : (b : Bool) → b ≡ breaks_hold p.config (held_by x p.entries) (image.contexts x.serial) tick.outcome → turn ≡ turn_by b
  turn-is true h = (rw (sym h) refl) ∙ ap broken_by (sym same-tick)
  turn-is false h = (rw (sym h) refl) ∙ ap (λ z. whole_by z tick) (sym tied.code) ∙ ap (whole_by state.code) (sym same-tick)

  -- the image that is stepped has the context of the tick
  effect-is : turn_effect false executor p state ≡ effect_by state.code seen
  effect-is =
      let nine = tied.nine in
      let fits = seat.fits in
      ap (λ context. effect p.config (length p.entries) (with_label p (label_at p seen.outcome)) (caller p x) (length state.code / 4) context seen.outcome)
      (context_at-after_tick state slot seen (omega (arith, nine, fits)))

  entry-by : (b : Bool) → (turn_by b).entry ≡ turn_entry b executor p state
  entry-by true = refl
  entry-by false = ap (λ (f : Effect). entry_of (label_at p seen.outcome) f.event) (sym effect-is)

  entry-is : turn.entry ≡ turn_entry breaks executor p state
  entry-is = ap (λ (t : Turn). t.entry) (turn-is breaks breaks-is) ∙ entry-by breaks

  pub may-turn : MayTurn executor p state
  may-turn = record {
    ready = may.running.ready;
    runs = runs;
    room = may.room;
    fits = seat.fits;
    cost = may.some;
    follows = subst (Follows p.config p.entries) entry-is turn-follows;
  }

  -- the image after the turn
  tied-after : (b : Bool) (new : Dispatched) (done : Done)
      → HasRows (slots old) (slots new) x done.child → effect_of done ≡ turn_effect b executor p state
      → IsImage (slots new) x.process (turn_by b).image (finished (turn_state b executor state) slot done)
  tied-after true new done rows is =
      let answer = no-answer done.answer (ap (λ (f : Effect). f.reply) is) in
      let child = no-child done.child (ap (λ (f : Effect). f.child) is) in
      let keeps : Keeps (slots old) (slots new) = subst (HasRows (slots old) (slots new) x) child rows in
      rw (answer, child) (keeps-image (slots old) (slots new) x.process image state keeps tied)
  tied-after false new done rows is =
      let nine = tied.nine in
      let fits = seat.fits in
      let seated = image-finished (slots old) (slots new) x slot image state seen done.answer done.child tied (omega (arith, nine, fits)) seat.at seat.own rows in
      let timed = subst (λ (t : Tick). IsImage (slots new) x.process (image_after image x.serial t (effect_of done)) (finished (after_tick state slot seen) slot done)) same-tick seated in
      subst (λ (f : Effect). IsImage (slots new) x.process (image_after image x.serial tick f) (finished (after_tick state slot seen) slot done)) (is ∙ effect-is) timed

  code-after : (b : Bool) → (turn_state b executor state).code ≡ state.code
  code-after true = refl
  code-after false = refl

  pub turn-booked : (new : Dispatched) (written : State) (entry : Entry) (before between after : ℕ)
      → between ≤ before + 4 * length p.config.levels
      → HasTurned executor (snapshot old state between) (snapshot new written after) entry
      → HasBooked (snapshot old states before) (snapshot new (slice_set states x.process written) after) entry
  turn-booked new written entry before between after chose turned =
      let same : entry ≡ turn.entry =
      turned.newest ∙ ap (λ (f : Effect). entry_of (turn_label executor p state) f.event) turned.effect ∙ sym entry-is in
      let is = turn-is breaks breaks-is in
      let image-is : IsImage (slots new) x.process turn.image written =
      subst (λ (t : Turn). IsImage (slots new) x.process t.image written) (sym is)
      (subst (λ z. IsImage (slots new) x.process (turn_by breaks).image z) (sym turned.image)
      (tied-after breaks new turned.done turned.rows turned.effect)) in
      record {
        past = turned.past;
        newest = ap (λ (v : World). v.past) next-is ∙ ap (λ e. e ∷ p.entries) (sym same);
        follows = subst (Follows p.config p.entries) (sym same) turn-follows;
        images =
            subst (λ (v : World). AreImages (slots new) v.images (slice_set states x.process written)) (sym next-is)
            (images-after (slots old) (slots new) w.images states x.process turn.image written may.running.images within
            (elsewhere (slots old) (slots new) x turned.done.child turned.rows) image-is);
        codes =
            map-set_same code_of states x.process written default
            (ap (λ (s : State). s.code) turned.image ∙ finished-code (turn_state breaks executor state) slot turned.done ∙ code-after breaks);
        steps = few-steps (length p.config.levels) ((length p.config.levels + 6) * (stopped p.config (entry ∷ p.entries) + 1)) before between after chose turned.steps;
      }

-- once the tick is closed and the next one is open
after-open : (o : Option Event) (e : Entry) (p : Past) → opened (closed e (after_told o e (charged p))) ≡ record { config = p.config; entries = e ∷ p.entries; tick = Ready }
after-open None e p = refl
after-open (Some Event.Wait) e p = refl
after-open (Some event) e p = refl

module _ (old booked shut next : Dispatched) (states written : List State) (entry : Entry) (before between : ℕ) (running : IsRunning old states)
    (is : HasBooked (snapshot old states before) (snapshot booked written between) entry) (close : shut.past ≡ closed entry booked.past) (open_next : next.past ≡ opened shut.past) where
  next-past : next.past ≡ record { config = old.past.config; entries = entry ∷ old.past.entries; tick = Ready }
  next-past = open_next ∙ ap opened (close ∙ ap (closed entry) is.past) ∙ after-open entry.event entry old.past

  run-is : run_of old.past states ≡ world_at old.past states
  run-is = ap (λ entries. record { past = entries; images = (run_of old.past states).images }) running.run

  world-next : world old.past.config (map code_of written) (length (entry ∷ old.past.entries)) ≡ next_world old.past states
  world-next = ap (λ z. world old.past.config z (length (entry ∷ old.past.entries))) is.codes ∙ ap (step old.past.config) run-is

  pub runs-on : shut.threads ≡ booked.threads → Keeps (slots shut) (slots next) → IsRunning next written
  runs-on rows keeps = record {
    ready = ap (λ (q : Past). q.tick) next-past;
    run =
        subst (λ (q : Past). (run_of q written).past ≡ q.entries) (sym next-past) (ap (λ (v : World). v.past) world-next ∙ is.newest);
    images =
        subst (λ (q : Past). AreImages (slots next) (world_at q written).images written) (sym next-past)
        (subst (λ (v : World). AreImages (slots next) v.images written) (sym world-next)
        (keeps-images (slots booked) (slots next) (next_world old.past states).images written
        (λ y s here. same-rows booked shut rows y s (keeps y s here)) is.images));
  }

  pub few-in-all : (after : ℕ) → after ≤ between + 3 + 3 * length next.past.config.levels + 2 * moved next.past.config next.past.entries
      → after ≤ before + 16 * (length next.past.config.levels + 1) * (moved next.past.config next.past.entries + 1)
  few-in-all after few =
      let c = old.past.config in
      let entries = entry ∷ old.past.entries in
      subst (λ (q : Past). after ≤ before + 16 * (length q.config.levels + 1) * (moved q.config q.entries + 1)) (sym next-past)
      (sum-of-steps (length c.levels) (stopped c entries) (moved c entries) before between after is.steps
      (subst (λ (q : Past). after ≤ between + 3 + 3 * length q.config.levels + 2 * moved q.config q.entries) next-past few)
      (stopped-moved c entries))

pub is-shut : (entry : Entry) (booked shut : Dispatched) → shut.past ≡ closed entry booked.past → IsShut shut.past
is-shut entry booked shut close = record { entry = entry; closed = ap (λ (q : Past). q.tick) close }
