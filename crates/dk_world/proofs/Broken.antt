-- A hold that breaks leaves all as it was, and what a create leaves.
use Rattle.dk_world.proofs.Names.{ℕ, ◌≡◌, ◌∷◌, ◌∙◌, ◌/◌, Bool, true, false, eqb, not, ◌&&◌, List, length, Option, Some, refl, ap, sym, subst, inl, inr, ◌⊎◌, option_map_or, cases_Bool, Configuration, FaultKind, ThreadId, Choice, Event, Entry, Hold, held_by, innermost_left, chosen, label_of, Context, Outcome, KernelCall, Tick, reg, replied, EndsHold, HoldLeaves, CreateLeaves, Effect, child_context, creates, effect, Image, Turn, World, body_step, breaks_hold, executes, image_after, may_be_last, quiet_entry, quiet_step, step, thread_at, thread_turn, tick_in, turned, update, work_done, nat_tests, arith}
use Rattle.dk_world.proofs.Effected.{IsBirth, effect-creates, effect-faults}
use Rattle.dk_world.proofs.Refused.{update-same, update-other, head-is}

ends-last : (held : List Hold) (context : Context) (o : Outcome) → EndsHold held context o → may_be_last held (reg context 1) o ≡ true
ends-last held context o is = grind (arith, nat_tests)

both : (n : ℕ) (b : Bool) → (eqb n 1 && not b) ≡ true → (n ≡ 1) × (b ≡ false)
both n b is = grind (arith, nat_tests)

-- a turn of a thread, whatever its instruction comes to
module _ (c : Configuration) (past : List Entry) (choice : Choice) (x : ThreadId) (image : Image) (tick : Tick) where
  abbrev held : List Hold
  held = held_by x past

  abbrev context : Context
  context = image.contexts x.serial

  abbrev given_by : Outcome → Effect
  given_by o = effect c (length past) (quiet_entry (label_of choice (work_done o)) ∷ past) (thread_at c past x) (length image.code / 4) tick.context o

  abbrev Broke : Type 0
  Broke = (innermost_left c held ≡ 1) × (EndsHold held context tick.outcome → ⊥)

  unlast : (EndsHold held context tick.outcome → ⊥) → may_be_last held (reg context 1) tick.outcome ≡ false
  unlast never = grind (arith, nat_tests)

  broken-of : Broke → breaks_hold c held context tick.outcome ≡ true
  broken-of (last, never) = rw last (rw (unlast never) refl)

  of-broken : breaks_hold c held context tick.outcome ≡ true → Broke
  of-broken is =
      let (last, unended) = both (innermost_left c held) (may_be_last held (reg context 1) tick.outcome) is in
      (last, λ ends. (let no : true ≡ false = sym (ends-last held context tick.outcome ends) ∙ unended in cc))

  turn-breaks : breaks_hold c held context tick.outcome ≡ true
      → ((thread_turn c past choice x image tick).entry.event ≡ Some (Event.Fault FaultKind.Hold)) × ((thread_turn c past choice x image tick).image ≡ image)
  turn-breaks broken = (rw broken refl, rw broken refl)

  turn-event : breaks_hold c held context tick.outcome ≡ false → (thread_turn c past choice x image tick).entry.event ≡ (given_by tick.outcome).event
  turn-event whole = rw whole refl

  turn-image : breaks_hold c held context tick.outcome ≡ false → (thread_turn c past choice x image tick).image ≡ image_after image x.serial tick (given_by tick.outcome)
  turn-image whole = rw whole refl

  pub broke : Broke → ((thread_turn c past choice x image tick).entry.event ≡ Some (Event.Fault FaultKind.Hold)) × ((thread_turn c past choice x image tick).image ≡ image)
  broke breaks = turn-breaks (broken-of breaks)

  pub faulted : (kind : FaultKind) → (thread_turn c past choice x image tick).entry.event ≡ Some (Event.Fault kind) → (tick.outcome ≡ Outcome.Fault kind) ⊎ ((kind ≡ FaultKind.Hold) × Broke)
  faulted kind event =
      elim (cases_Bool (breaks_hold c held context tick.outcome)) [
        | inl broken ↦ (let (hold, kept) = turn-breaks broken in let some : Some (Event.Fault FaultKind.Hold) ≡ Some (Event.Fault kind) = sym hold ∙ event in let same : kind ≡ FaultKind.Hold = cc in inr (same, of-broken broken))
        | inr whole ↦ inl (effect-faults kind c (length past) (quiet_entry (label_of choice (work_done tick.outcome)) ∷ past) (thread_at c past x) (length image.code / 4) tick.context tick.outcome (sym (turn-event whole) ∙ event))
      ]

  pub exited : tick.outcome ≡ Outcome.CallDone KernelCall.Exit → (thread_turn c past choice x image tick).entry.event ≡ Some Event.Exit
  exited exit = grind (arith, nat_tests)

  pub born : (serial level quota : ℕ) → (thread_turn c past choice x image tick).entry.event ≡ Some (Event.Create serial level quota)
      → IsBirth tick.context serial level quota (given_by tick.outcome) × ((thread_turn c past choice x image tick).image ≡ image_after image x.serial tick (creates serial tick.context))
  born serial level quota event =
      elim (cases_Bool (breaks_hold c held context tick.outcome)) [
        | inl broken ↦ (let (hold, kept) = turn-breaks broken in absurd (let no : Some (Event.Fault FaultKind.Hold) ≡ Some (Event.Create serial level quota) = sym hold ∙ event in cc))
        | inr whole ↦
            let birth = effect-creates c (length past) (quiet_entry (label_of choice (work_done tick.outcome)) ∷ past) (thread_at c past x) (length image.code / 4) tick.context serial level quota tick.outcome (sym (turn-event whole) ∙ event) in
            (birth, turn-image whole ∙ ap (λ g. image_after image x.serial tick g) birth.is)
      ]

same-images : (w : World) (q : ℕ) (image : Image) (p : ℕ) → image ≡ w.images q → update q image w.images p ≡ w.images p
same-images w q image p is = grind (arith, nat_tests)

hold-leaves : (c : Configuration) (w : World) (choice : Choice) (x : ThreadId) (tick : Tick)
    → HoldLeaves c w (turned w x.process (thread_turn c w.past choice x (w.images x.process) tick)) (thread_turn c w.past choice x (w.images x.process) tick).entry x tick
hold-leaves c w choice x tick = record {
  breaks = λ breaks. (let (event, kept) = broke c w.past choice x (w.images x.process) tick breaks in (event, λ p. same-images w x.process (thread_turn c w.past choice x (w.images x.process) tick).image p kept));
  faults = faulted c w.past choice x (w.images x.process) tick;
  exits = exited c w.past choice x (w.images x.process) tick;
}

create-leaves : (w : World) (x : ThreadId) (tick : Tick) (serial level quota : ℕ) (turn : Turn) (f : Effect) → IsBirth tick.context serial level quota f
    → turn.image ≡ image_after (w.images x.process) x.serial tick (creates serial tick.context) → CreateLeaves w (turned w x.process turn) x tick serial level quota
create-leaves w x tick serial level quota turn f birth is =
    let at : update x.process turn.image w.images x.process ≡ image_after (w.images x.process) x.serial tick (creates serial tick.context) =
    update-same x.process turn.image w.images ∙ is in
    let first : Context = child_context (reg tick.context 3) (reg tick.context 4) in
    let answered : Context = replied tick.context 0 (Some serial) in
    let inner : (ℕ → Context) = update x.serial answered (w.images x.process).contexts in
    record {
      level_is = birth.level_is;
      quota_is = birth.quota_is;
      child = ap (λ (i : Image). i.contexts serial) at ∙ update-same serial first inner;
      caller = λ apart. ap (λ (i : Image). i.contexts x.serial) at ∙ update-other serial x.serial first inner apart ∙ update-same x.serial answered (w.images x.process).contexts;
      others = λ other apart away. ap (λ (i : Image). i.contexts other) at ∙ update-other serial other first inner away ∙ update-other x.serial other answered (w.images x.process).contexts apart;
      memory = ap (λ (i : Image). i.memory) at;
      elsewhere = λ p apart. update-other x.process p turn.image w.images apart;
    }

abbrev turn_of : Configuration → World → ThreadId → Turn
turn_of c w x = thread_turn c w.past (chosen c w.past) x (w.images x.process) (tick_in c (w.images x.process) x.serial)

by : (c : Configuration) (w : World) (choice : Choice) (o : Option ThreadId) (x : ThreadId) → o ≡ Some x
    → option_map_or (body_step c choice w) o (quiet_step choice w) ≡ body_step c choice w x
by c w choice o x is = rw is refl

step-is : (c : Configuration) (w : World) (x : ThreadId) → executes (chosen c w.past) ≡ Some x → step c w ≡ turned w x.process (turn_of c w x)
step-is c w x runs = by c w (chosen c w.past) (executes (chosen c w.past)) x runs

newest : (c : Configuration) (w : World) (e : Entry) (x : ThreadId) → (step c w).past ≡ e ∷ w.past → step c w ≡ turned w x.process (turn_of c w x) → (turn_of c w x).entry ≡ e
newest c w e x past is = head-is (turn_of c w x).entry e w.past w.past (sym (ap (λ (v : World). v.past) is) ∙ past)

pub holds-break : (c : Configuration) (w : World) (e : Entry) (x : ThreadId) → (step c w).past ≡ e ∷ w.past → executes (chosen c w.past) ≡ Some x
    → HoldLeaves c w (step c w) e x (tick_in c (w.images x.process) x.serial)
holds-break c w e x past runs =
    let is = step-is c w x runs in
    subst (λ v. HoldLeaves c w v e x (tick_in c (w.images x.process) x.serial)) (sym is)
    (subst (λ f. HoldLeaves c w (turned w x.process (turn_of c w x)) f x (tick_in c (w.images x.process) x.serial)) (newest c w e x past is)
    (hold-leaves c w (chosen c w.past) x (tick_in c (w.images x.process) x.serial)))

pub creates-leave : (c : Configuration) (w : World) (e : Entry) (x : ThreadId) (serial level quota : ℕ) → (step c w).past ≡ e ∷ w.past → executes (chosen c w.past) ≡ Some x
    → e.event ≡ Some (Event.Create serial level quota) → CreateLeaves w (step c w) x (tick_in c (w.images x.process) x.serial) serial level quota
creates-leave c w e x serial level quota past runs event =
    let is = step-is c w x runs in
    let made = ap (λ (f : Entry). f.event) (newest c w e x past is) ∙ event in
    let (birth, image) = born c w.past (chosen c w.past) x (w.images x.process) (tick_in c (w.images x.process) x.serial) serial level quota made in
    subst (λ v. CreateLeaves w v x (tick_in c (w.images x.process) x.serial) serial level quota) (sym is)
    (create-leaves w x (tick_in c (w.images x.process) x.serial) serial level quota (turn_of c w x) _ birth image)
