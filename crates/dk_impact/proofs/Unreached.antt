-- A run in which a process never comes to an instruction that is struck out.
use Rattle.dk_impact.proofs.Names.{ℕ, zero, suc, ◌≡◌, ◌+◌, ◌*◌, ◌/◌, ◌∙◌, ◌⊎◌, ◌&&◌, ◌||◌, not, inl, inr, Bool, true, false, cond, ltb, List, [], ◌∷◌, length, Option, Some, None, refl, sym, ap, subst, arith, nat_tests, cases_lt, list_any, option_map_or, slice_index_or, Configuration, Instr, FaultKind, Choice, Work, Event, Entry, label_of, work_done, breaks_hold, held_by, Context, Tick, body_tick, Image, Turn, World, Effect, effect, image_after, quiet_entry, quiet_step, step_of, thread_at, tick_in, world, update-same}
use Rattle.std.specs.Prelude.{◌==◌}
use Rattle.std.proofs.lemmas.Bool.{cases_eq}
use Rattle.dk_cpu.specs.Machine.{execute, fault}
use Rattle.dk_trace.specs.Choices.{chosen}
use Rattle.dk_trace.specs.declared.ThreadId.{ThreadId}
use Rattle.dk_world.proofs.Audits.{label-thread}
use Rattle.dk_world.proofs.Refused.{update-other}
use Rattle.dk_world.specs.Run.{body_step, executes, step, update}
use Rattle.dk_impact.specs.Unreached.{IsSameBut, NeverComesToNone, StrikesOut, StrikesOutOf, comes_to_none, instruction_at}

-- the image with another program
abbrev recoded : List ℕ → Image → Image
recoded code image = record { code = code; memory = image.memory; contexts = image.contexts }

abbrev turn_of : Configuration → List Entry → Choice → ThreadId → Tick → ℕ → Image → Turn
turn_of c past choice x tick instructions image =
    let label = label_of choice (work_done tick.outcome) in
    let given : Effect = effect c (length past) (quiet_entry label ∷ past) (thread_at c past x) instructions tick.context tick.outcome in
    cond (breaks_hold c (held_by x past) (image.contexts x.serial) tick.outcome)
    (record { entry = record { label = label; event = Some (Event.Fault FaultKind.Hold) }; image = image })
    (record { entry = record { label = label; event = given.event }; image = image_after image x.serial tick given })

-- a turn that comes to the same but for the program
record SameTurn (code : List ℕ) (one other : Turn) : Type 0 where
  entry : one.entry ≡ other.entry
  image : one.image ≡ recoded code other.image

by-cond : (code : List ℕ) (b : Bool) (x y x' y' : Turn) → SameTurn code x x' → SameTurn code y y' → SameTurn code (cond b x y) (cond b x' y')
by-cond code true x y x' y' first second = first
by-cond code false x y x' y' first second = second

same-turn : (c : Configuration) (past : List Entry) (choice : Choice) (x : ThreadId) (tick : Tick) (instructions : ℕ) (code : List ℕ) (image : Image)
    → SameTurn code (turn_of c past choice x tick instructions (recoded code image)) (turn_of c past choice x tick instructions image)
same-turn c past choice x tick instructions code image =
    let label = label_of choice (work_done tick.outcome) in
    let given : Effect = effect c (length past) (quiet_entry label ∷ past) (thread_at c past x) instructions tick.context tick.outcome in
    let hold : Entry = record { label = label; event = Some (Event.Fault FaultKind.Hold) } in
    let does-it : Entry = record { label = label; event = given.event } in
    by-cond code (breaks_hold c (held_by x past) (image.contexts x.serial) tick.outcome)
    (record { entry = hold; image = recoded code image }) (record { entry = does-it; image = image_after (recoded code image) x.serial tick given })
    (record { entry = hold; image = image }) (record { entry = does-it; image = image_after image x.serial tick given })
    (record { entry = refl; image = refl }) (record { entry = refl; image = refl })

-- one tick of the one program and of the other
ticks-by : (cost : ℕ) (program struck : List ℕ) (x : Context) (memory : List ℕ) → StrikesOut program struck
    → (body_tick cost program x memory ≡ body_tick cost struck x memory) ⊎ (body_tick cost struck x memory ≡ fault FaultKind.Decode x memory)
ticks-by cost program struck x memory out =
    elim (cases_lt (length program) (4 * x.pc + 4)) [
      | inl past ↦
          let short : ltb (length program) (4 * x.pc + 4) ≡ true = grind (arith, nat_tests) in
          inl (rw (sym out.long, short) refl)
      | inr within ↦
          let enough : ltb (length program) (4 * x.pc + 4) ≡ false = grind (arith, nat_tests) in
          let enough' : ltb (length struck) (4 * x.pc + 4) ≡ false = ap (λ n. ltb n (4 * x.pc + 4)) (sym out.long) ∙ enough in
          elim (out.each x.pc (omega (arith, within))) [
            | inl same ↦ inl (whole program enough ∙ ap (λ i. done-by i) same ∙ sym (whole struck enough'))
            | inr none ↦ inr (whole struck enough' ∙ ap (λ i. done-by i) none)
          ]
    ]
  where
    done-by : Option Instr → Tick
    done-by i = option_map_or (λ i. execute cost i x memory) i (fault FaultKind.Decode x memory)

    whole : (code : List ℕ) → ltb (length code) (4 * x.pc + 4) ≡ false → body_tick cost code x memory ≡ done-by (instruction_at code x.pc)
    whole code fits = ap (λ b. cond b (fault FaultKind.Fetch x memory) (done-by (instruction_at code x.pc))) fits

turn-code : (b : Bool) (code : List ℕ) (x y : Turn) → x.image.code ≡ code → y.image.code ≡ code → (cond b x y).image.code ≡ code
turn-code true code x y first second = first
turn-code false code x y first second = second

-- a fault is done in any tick
no-break : (a : Bool) (x y : Turn) → cond (a && not true) x y ≡ y
no-break true x y = refl
no-break false x y = refl

never-both : (b : Bool) → b ≡ true → b ≡ false → ⊥
never-both true is other = cc
never-both false is other = cc

first-not : (a b : Bool) → (a || b) ≡ false → a ≡ false
first-not a b is = grind (arith, nat_tests)

decode-entry : (p : ℕ) (choice : Choice) (x : ThreadId) → executes choice ≡ Some x → x.process ≡ p
    → comes_to_none p (record { label = label_of choice Work.Run; event = Some (Event.Fault FaultKind.Decode) }) ≡ true
decode-entry p choice x runs mine =
    ap (λ o. option_map_or (λ (y : ThreadId). p == y.process) o false && true) (label-thread choice Work.Run x runs) ∙ ap (λ b. b && true) (same mine)
  where
    same : x.process ≡ p → (p == x.process) ≡ true
    same is = grind (arith, nat_tests)

-- what is the same of two worlds, with what their programs are
record Alike (programs struck : List (List ℕ)) (w v : World) : Type 0 where
  past : w.past ≡ v.past
  images : (q : ℕ) → w.images q ≡ recoded (slice_index_or programs q []) (v.images q)
  codes : (q : ℕ) → (v.images q).code ≡ slice_index_or struck q []

module _ (c : Configuration) (programs struck : List (List ℕ)) (p : ℕ) (out : StrikesOutOf programs struck p) where
  its-out : (q : ℕ) → q ≡ p → StrikesOut (slice_index_or programs q []) (slice_index_or struck q [])
  its-out q is = subst (λ r. StrikesOut (slice_index_or programs r []) (slice_index_or struck r [])) (sym is) out.its

  lengths : (q : ℕ) → length (slice_index_or programs q []) ≡ length (slice_index_or struck q [])
  lengths q =
      elim (cases_eq q p) [
        | inl is ↦ (its-out q is).long
        | inr other ↦ ap length (out.others q other)
      ]

  module _ (w v : World) (choice : Choice) (x : ThreadId) (runs : executes choice ≡ Some x) (alike : Alike programs struck w v)
      (never : list_any (comes_to_none p) (body_step c choice v x).past ≡ false) where
    abbrev image : Image
    image = v.images x.process

    abbrev code : List ℕ
    code = slice_index_or programs x.process []

    abbrev tick : Tick
    tick = tick_in c image x.serial

    abbrev turn : Turn
    turn = turn_of c v.past choice x tick (length image.code / 4) image

    abbrev turn-before : Turn
    turn-before = turn_of c w.past choice x (tick_in c (w.images x.process) x.serial) (length (w.images x.process).code / 4) (w.images x.process)

    abbrev decodes : Tick
    decodes = fault FaultKind.Decode (image.contexts x.serial) image.memory

    no-decode : x.process ≡ p → tick ≡ decodes → ⊥
    no-decode mine is =
        let entry : turn.entry ≡ record { label = label_of choice Work.Run; event = Some (Event.Fault FaultKind.Decode) } =
        ap (λ t. (turn_of c v.past choice x t (length image.code / 4) image).entry) is ∙ ap (λ (t : Turn). t.entry) (no-break _ _ _) in
        let none : comes_to_none p turn.entry ≡ false = first-not (comes_to_none p turn.entry) (list_any (comes_to_none p) v.past) never in
        let some : comes_to_none p turn.entry ≡ true = ap (comes_to_none p) entry ∙ decode-entry p choice x runs mine in
        never-both (comes_to_none p turn.entry) some none

    by-code : (other : List ℕ) → other ≡ image.code → body_tick c.costs.call other (image.contexts x.serial) image.memory ≡ tick
    by-code other is = ap (λ k. body_tick c.costs.call k (image.contexts x.serial) image.memory) is

    same-tick : body_tick c.costs.call code (image.contexts x.serial) image.memory ≡ tick
    same-tick =
        elim (cases_eq x.process p) [
          | inr other ↦ by-code code (out.others x.process other ∙ sym (alike.codes x.process))
          | inl mine ↦
              let back = by-code (slice_index_or struck x.process []) (sym (alike.codes x.process)) in
              elim (ticks-by c.costs.call code (slice_index_or struck x.process []) (image.contexts x.serial) image.memory (its-out x.process mine)) [
                | inl same ↦ same ∙ back
                | inr none ↦ absurd (no-decode mine (sym back ∙ none))
              ]
        ]

    turns : SameTurn code turn-before turn
    turns =
        let many : length code / 4 ≡ length image.code / 4 = ap (λ n. n / 4) (lengths x.process ∙ ap length (sym (alike.codes x.process))) in
        let same : turn-before ≡ turn_of c v.past choice x tick (length image.code / 4) (recoded code image) =
        ap (λ past. turn_of c past choice x (tick_in c (w.images x.process) x.serial) (length (w.images x.process).code / 4) (w.images x.process)) alike.past
        ∙ ap (λ (i : Image). turn_of c v.past choice x (tick_in c i x.serial) (length i.code / 4) i) (alike.images x.process)
        ∙ ap (λ t. turn_of c v.past choice x t (length code / 4) (recoded code image)) same-tick
        ∙ ap (λ n. turn_of c v.past choice x tick n (recoded code image)) many in
        subst (λ t. SameTurn code t turn) (sym same) (same-turn c v.past choice x tick (length image.code / 4) code image)

    kept-code : turn.image.code ≡ image.code
    kept-code = turn-code (breaks_hold c (held_by x v.past) (image.contexts x.serial) tick.outcome) image.code _ _ refl refl

    bodies : Alike programs struck (body_step c choice w x) (body_step c choice v x)
    bodies =
        record {
          past = ap (λ e. e ∷ w.past) turns.entry ∙ ap (λ es. turn.entry ∷ es) alike.past;
          images = λ q.
              elim (cases_eq q x.process) [
                | inl is ↦
                    subst (λ r. update x.process turn-before.image w.images r ≡ recoded (slice_index_or programs r []) (update x.process turn.image v.images r)) (sym is)
                    (update-same x.process turn-before.image w.images ∙ turns.image ∙ ap (recoded code) (sym (update-same x.process turn.image v.images)))
                | inr other ↦
                    update-other x.process q turn-before.image w.images other ∙ alike.images q
                    ∙ ap (recoded (slice_index_or programs q [])) (sym (update-other x.process q turn.image v.images other))
              ];
          codes = λ q.
              elim (cases_eq q x.process) [
                | inl is ↦
                    subst (λ r. (update x.process turn.image v.images r).code ≡ slice_index_or struck r []) (sym is)
                    (ap (λ (i : Image). i.code) (update-same x.process turn.image v.images) ∙ kept-code ∙ alike.codes x.process)
                | inr other ↦ ap (λ (i : Image). i.code) (update-other x.process q turn.image v.images other) ∙ alike.codes q
              ];
        }

  steps : (w v : World) (choice : Choice) (o : Option ThreadId) → executes choice ≡ o → Alike programs struck w v
      → list_any (comes_to_none p) (option_map_or (body_step c choice v) o (quiet_step choice v)).past ≡ false
      → Alike programs struck (option_map_or (body_step c choice w) o (quiet_step choice w)) (option_map_or (body_step c choice v) o (quiet_step choice v))
  steps w v choice None runs alike never =
      record { past = ap (λ es. quiet_entry (label_of choice Work.Run) ∷ es) alike.past; images = alike.images; codes = alike.codes }
  steps w v choice (Some x) runs alike never = bodies w v choice x runs alike never

  alike-all : NeverComesToNone c struck p → (n : ℕ) → Alike programs struck (world c programs n) (world c struck n)
  alike-all never zero = record { past = refl; images = λ q. refl; codes = λ q. refl }
  alike-all never (suc n) =
      let w = world c programs n in
      let v = world c struck n in
      let before = alike-all never n in
      subst (λ past. Alike programs struck (step_of c w (chosen c past)) (step c v)) (sym before.past)
      (steps w v (chosen c v.past) (executes (chosen c v.past)) refl before (never (suc n)))

  pub same-run : NeverComesToNone c struck p → (n : ℕ) → IsSameBut (world c programs n) (world c struck n)
  same-run never n =
      let both = alike-all never n in
      record {
        past = both.past;
        memory = λ q. ap (λ (i : Image). i.memory) (both.images q);
        contexts = λ q serial. ap (λ (i : Image). i.contexts serial) (both.images q);
      }
