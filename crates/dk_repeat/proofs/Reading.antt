-- What an entry and the contexts behind it show of who read the tick.
use Rattle.dk_repeat.proofs.Names.{ℕ, suc, ◌≡◌, ◌+◌, ◌*◌, ◌/◌, ◌<◌, ◌≤◌, inl, inr, Bool, true, false, cond, eqb, ltb, List, ◌∷◌, length, Option, Some, None, refl, sym, ap, ◌∙◌, subst, arith, map, option_map_or, cases_lt, eqb_tells, nat_tests, Configuration, FaultKind, ThreadId, Phase, Work, Choice, Label, Event, Refusal, Entry, Has, stops, Thread, family, after_entry, chosen, label_of, held_by, Context, Outcome, KernelCall, Tick, body_tick, reg, Effect, effect, or_refused, done, Image, World, Turn, executes, work_done, quiet_entry, thread_at, breaks_hold, thread_turn, tick_in, image_after, with_reply, with_child, update, body_step, quiet_step, world, trace, Audited, Always, ChoosesWithCause, ChosenHolds, ThreadsPlaced, AskersThere, RunsAreAudited, keeps_threads}
use Rattle.std.specs.Prelude.{slice_get, slice_range}
use Rattle.dk_isa.specs.declared.Instr.{Instr}
use Rattle.dk_isa.specs.Table.{instruction_of}
use Rattle.dk_cpu.specs.Machine as machine
use Rattle.dk_trace.proofs.Members.{append-left, map-has}
use Rattle.dk_world.proofs.Outcomes.{IsOwn, instruction_at, own-tick}
use Rattle.dk_world.proofs.Refused.{update-same}
use Rattle.dk_repeat.specs.Reading.{EntriesShowReads, IsBehindRead, RunsOn, caller, quiet_caller}
use Rattle.dk_repeat.proofs.Kept.{idle, stops-none}
use Rattle.dk_repeat.proofs.Running.{Executing, executing}
use Rattle.dk_repeat.proofs.Repeating.{code-stays}

-- ---- a call in a tick of a program

-- a call that goes on has ticks left, and one that is done has none and is behind its instruction
record IsCalled (x : Context) (t : Tick) : Type 0 where
  going : t.outcome ≡ Outcome.InCall → 0 < t.context.left
  over : (call : KernelCall) → t.outcome ≡ Outcome.CallDone call → (t.context.left ≡ 0) × (t.context.pc ≡ x.pc + 1)

called-if : (x : Context) (b : Bool) (s t : Tick) → IsCalled x s → IsCalled x t → IsCalled x (cond b s t)
called-if x true s t first second = first
called-if x false s t first second = second

called-ran : (x y : Context) (memory : List ℕ) → IsCalled x (machine.ran y memory)
called-ran x y memory = record { going = λ e. absurd (cc); over = λ call e. absurd (cc) }

called-fault : (kind : FaultKind) (x y : Context) (memory : List ℕ) → IsCalled x (machine.fault kind y memory)
called-fault kind x y memory = record { going = λ e. absurd (cc); over = λ call e. absurd (cc) }

called-call : (call : KernelCall) (left : ℕ) (x : Context) (memory : List ℕ) → IsCalled x (machine.call_tick call left x memory)
called-call call left x memory =
    elim (eqb_tells left 0) [
      | inl (is, same) ↦ rw is (record { going = λ e. absurd (cc); over = λ other e. (refl, refl) })
      | inr (unlike, differ) ↦ rw unlike (record { going = λ e. omega (arith, differ); over = λ other e. absurd (cc) })
    ]

called-trap : (o : Option KernelCall) (left : ℕ) (x : Context) (memory : List ℕ)
    → IsCalled x (option_map_or (λ call. machine.call_tick call left x memory) o (machine.fault FaultKind.Call x memory))
called-trap None left x memory = called-fault FaultKind.Call x x memory
called-trap (Some call) left x memory = called-call call left x memory

called-loaded : (x : Context) (memory : List ℕ) (a : ℕ) (o : Option ℕ)
    → IsCalled x (option_map_or (λ v. machine.ran (machine.set x a v) memory) o (machine.fault FaultKind.Memory x memory))
called-loaded x memory a None = called-fault FaultKind.Memory x x memory
called-loaded x memory a (Some v) = called-ran x (machine.set x a v) memory

called-execute : (cost : ℕ) (i : Instr) (x : Context) (memory : List ℕ) → IsCalled x (machine.execute cost i x memory)
called-execute cost (Instr.Div a b k) x memory = called-if x (eqb (reg x k) 0) _ _ (called-fault FaultKind.Divide x x memory) (called-ran x _ memory)
called-execute cost (Instr.Rem a b k) x memory = called-if x (eqb (reg x k) 0) _ _ (called-fault FaultKind.Divide x x memory) (called-ran x _ memory)
called-execute cost (Instr.Ld a b k) x memory = called-loaded x memory a (slice_get memory (reg x b + k))
called-execute cost (Instr.St a b k) x memory =
    called-if x (ltb (reg x b + k) (length memory)) _ _ (called-ran x _ _) (called-fault FaultKind.Memory x x memory)
called-execute cost (Instr.Trap k) x memory = called-trap (machine.call_of k) (machine.left_of_call cost x) x memory
called-execute cost _ x memory = called-ran x _ memory

called-decoded : (cost : ℕ) (o : Option Instr) (x : Context) (memory : List ℕ)
    → IsCalled x (option_map_or (λ i. machine.execute cost i x memory) o (machine.fault FaultKind.Decode x memory))
called-decoded cost None x memory = called-fault FaultKind.Decode x x memory
called-decoded cost (Some i) x memory = called-execute cost i x memory

called-tick : (cost : ℕ) (code : List ℕ) (x : Context) (memory : List ℕ) → IsCalled x (body_tick cost code x memory)
called-tick cost code x memory =
    called-if x (ltb (length code) (4 * x.pc + 4)) _ _ (called-fault FaultKind.Fetch x x memory)
    (called-decoded cost (instruction_of (slice_range code (4 * x.pc) (4 * x.pc + 4))) x memory)

-- where a call is done there was an instruction
has-instruction : (cost : ℕ) (code : List ℕ) (x : Context) (memory : List ℕ) (call : KernelCall)
    → (body_tick cost code x memory).outcome ≡ Outcome.CallDone call → 4 * x.pc + 4 ≤ length code
has-instruction cost code x memory call is =
    elim (cases_lt (length code) (4 * x.pc + 4)) [
      | inl past ↦
          let test : ltb (length code) (4 * x.pc + 4) ≡ true = grind (arith, nat_tests) in
          let fault : (body_tick cost code x memory).outcome ≡ Outcome.Fault FaultKind.Fetch = rw test refl in
          let never : Outcome.CallDone call ≡ Outcome.Fault FaultKind.Fetch = sym is ∙ fault in
          absurd (cc)
      | inr within ↦ within
    ]

-- a later number's call
passed : (b : Bool) (call : KernelCall) (rest : Option KernelCall) {P : Type 0} → (call ≡ KernelCall.Time → ⊥) → (rest ≡ Some KernelCall.Time → P)
    → cond b (Some call) rest ≡ Some KernelCall.Time → P
passed true call rest other later is = absurd (other cc)
passed false call rest other later is = later is

-- the number of the call that reads the tick
time-number : (n : ℕ) → machine.call_of n ≡ Some KernelCall.Time → n ≡ 9
time-number n =
    passed (eqb n 1) KernelCall.Wait _ (λ e. cc) (passed (eqb n 2) KernelCall.Exit _ (λ e. cc) (passed (eqb n 3) KernelCall.Create _ (λ e. cc)
    (passed (eqb n 4) KernelCall.Delete _ (λ e. cc) (passed (eqb n 5) KernelCall.Lock _ (λ e. cc) (passed (eqb n 6) KernelCall.Unlock _ (λ e. cc)
    (passed (eqb n 7) KernelCall.Slack _ (λ e. cc) (passed (eqb n 8) KernelCall.Put _ (λ e. cc) last)))))))
  where
    left : (b : Bool) → cond b (Some KernelCall.Left) None ≡ Some KernelCall.Time → ⊥
    left true is = cc
    left false is = cc

    last : cond (eqb n 9) (Some KernelCall.Time) (cond (eqb n 10) (Some KernelCall.Left) None) ≡ Some KernelCall.Time → n ≡ 9
    last is = elim (eqb_tells n 9) [
      | inl (is_nine, same) ↦ same
      | inr (other, differ) ↦ absurd (left (eqb n 10) (subst (λ b. cond b (Some KernelCall.Time) (cond (eqb n 10) (Some KernelCall.Left) None) ≡ Some KernelCall.Time) other is))
    ]

-- ---- a thread's tick, with its entry and its context behind it

caller-run : (choice : Choice) → caller (label_of choice Work.Run) ≡ None
caller-run (Choice.Kernel i) = refl
caller-run (Choice.Budget x Phase.In) = refl
caller-run (Choice.Budget x Phase.Body) = refl
caller-run (Choice.Budget x Phase.Out) = refl
caller-run (Choice.Slack x source Phase.In) = refl
caller-run (Choice.Slack x source Phase.Body) = refl
caller-run (Choice.Slack x source Phase.Out) = refl
caller-run Choice.Idle = refl

caller-call : (choice : Choice) (x : ThreadId) → executes choice ≡ Some x → caller (label_of choice Work.Call) ≡ Some x
caller-call (Choice.Budget y Phase.Body) x is = is
caller-call (Choice.Slack y source Phase.Body) x is = is
caller-call (Choice.Kernel i) x is = absurd (cc)
caller-call (Choice.Budget y Phase.In) x is = absurd (cc)
caller-call (Choice.Budget y Phase.Out) x is = absurd (cc)
caller-call (Choice.Slack y source Phase.In) x is = absurd (cc)
caller-call (Choice.Slack y source Phase.Out) x is = absurd (cc)
caller-call Choice.Idle x is = absurd (cc)

-- what the entry of a tick that came to o, and the context behind it, show
record Shown (code : List ℕ) (x : ThreadId) (o : Outcome) (e : Entry) (after : Context) : Type 0 where
  named : (y : ThreadId) → quiet_caller e ≡ Some y → x ≡ y
  reads : (y : ThreadId) → quiet_caller e ≡ Some y → IsBehindRead code after → (o ≡ Outcome.CallDone KernelCall.Time) × (e.event ≡ None)
  only : o ≡ Outcome.CallDone KernelCall.Time → e.event ≡ None → (quiet_caller e ≡ Some x) × IsBehindRead code after
  kept : o ≡ Outcome.CallDone KernelCall.Time → option_map_or keeps_threads e.event true ≡ true → e.event ≡ None

-- an entry that names no caller
nobody : (code : List ℕ) (x : ThreadId) (o : Outcome) (e : Entry) (after : Context) → quiet_caller e ≡ None → (o ≡ Outcome.CallDone KernelCall.Time → ⊥) → Shown code x o e after
nobody code x o e after none other = record {
  named = λ y is. let never : None ≡ Some y = sym none ∙ is in absurd (cc);
  reads = λ y is behind. let never : None ≡ Some y = sym none ∙ is in absurd (cc);
  only = λ is answered. absurd (other is);
  kept = λ is keeps. absurd (other is);
}

-- a call that may be refused tells an event
told-refused : (label : Label) (r : Option Refusal) (given : Effect) (event : Event) → given.event ≡ Some event
    → quiet_caller (record { label = label; event = (or_refused r given).event }) ≡ None
told-refused label (Some reason) given event is = refl
told-refused label None given event is = rw is refl

module _ (c : Configuration) (now : ℕ) (past : List Entry) (row : Thread) (instructions : ℕ) (code memory : List ℕ) (before : Context) (contexts : ℕ → Context)
    (choice : Choice) (x : ThreadId) (runs : executes choice ≡ Some x) where
  abbrev given_of : Outcome → Context → Effect
  given_of o z = effect c now past row instructions z o

  abbrev entry_of : Outcome → Context → Entry
  entry_of o z = record { label = label_of choice (work_done o); event = (given_of o z).event }

  abbrev after_of : Outcome → Context → Context
  after_of o z = with_child (update x.serial (with_reply z (given_of o z).reply) contexts) (given_of o z).child x.serial

  abbrev Holds : Outcome → Context → List ℕ → Type 0
  Holds o z m =
      IsCalled before (record { outcome = o; context = z; memory = m }) → IsOwn (instruction_at code before.pc) before (record { outcome = o; context = z; memory = m })
      → (o ≡ Outcome.CallDone KernelCall.Time → 4 * before.pc + 4 ≤ length code) → Shown code x o (entry_of o z) (after_of o z)

  called : caller (label_of choice Work.Call) ≡ Some x
  called = caller-call choice x runs

  mine : (y : ThreadId) → caller (label_of choice Work.Call) ≡ Some y → x ≡ y
  mine y is = let both : Some x ≡ Some y = sym called ∙ is in cc

  going-on : (z : Context) (m : List ℕ) → Holds Outcome.InCall z m
  going-on z m is own within = record {
    named = mine;
    reads = λ y names behind.
        let after : after_of Outcome.InCall z ≡ z = update-same x.serial z contexts in
        let none : z.left ≡ 0 = sym (ap (λ (k : Context). k.left) after) ∙ behind.over in
        let some = is.going refl in
        absurd (omega (arith, none, some));
    only = λ never answered. absurd (cc);
    kept = λ never keeps. absurd (cc);
  }

  left-read : (z : Context) (m : List ℕ) → Holds (Outcome.CallDone KernelCall.Left) z m
  left-read z m is own within = record {
    named = mine;
    reads = λ y names behind.
        let o = Outcome.CallDone KernelCall.Left in
        let after : after_of o z ≡ with_reply z (given_of o z).reply = update-same x.serial (with_reply z (given_of o z).reply) contexts in
        let pc : z.pc ≡ behind.place + 1 = sym (ap (λ (k : Context). k.pc) after) ∙ behind.next in
        let over = (is.over KernelCall.Left refl).1 in
        let same : behind.place ≡ before.pc = omega (arith, pc, over) in
        let (k, (there, named)) = own.trap KernelCall.Left refl in
        let here : instruction_at code before.pc ≡ Some (Instr.Trap 9) = subst (λ n. instruction_at code n ≡ Some (Instr.Trap 9)) same behind.is in
        let both : Some (Instr.Trap k) ≡ Some (Instr.Trap 9) = sym there ∙ here in
        let number : k ≡ 9 = cc in
        let never : Some KernelCall.Time ≡ Some KernelCall.Left = sym (ap machine.call_of number) ∙ named in
        absurd (cc);
    only = λ never answered. absurd (cc);
    kept = λ never keeps. absurd (cc);
  }

  time-read : (z : Context) (m : List ℕ) → Holds (Outcome.CallDone KernelCall.Time) z m
  time-read z m is own within = record {
    named = mine;
    reads = λ y names behind. (refl, refl);
    only = λ same answered.
        let o = Outcome.CallDone KernelCall.Time in
        let after : after_of o z ≡ with_reply z (given_of o z).reply = update-same x.serial (with_reply z (given_of o z).reply) contexts in
        let over = is.over KernelCall.Time refl in
        let (k, (there, named)) = own.trap KernelCall.Time refl in (
          called,
          record {
            over = ap (λ (j : Context). j.left) after ∙ over.0;
            place = before.pc;
            next = ap (λ (j : Context). j.pc) after ∙ over.1;
            within = within refl;
            is = there ∙ ap (λ j. Some (Instr.Trap j)) (time-number k named);
          },
        );
    kept = λ same keeps. refl;
  }

  by-outcome : (o : Outcome) (z : Context) (m : List ℕ) → Holds o z m
  by-outcome Outcome.Ran z m is own within = nobody code x _ _ _ (caller-run choice) (λ e. cc)
  by-outcome Outcome.InCall z m is own within = going-on z m is own within
  by-outcome (Outcome.Fault kind) z m is own within = nobody code x _ _ _ refl (λ e. cc)
  by-outcome (Outcome.CallDone KernelCall.Wait) z m is own within = nobody code x _ _ _ (told-refused _ _ (done Event.Wait) Event.Wait refl) (λ e. cc)
  by-outcome (Outcome.CallDone KernelCall.Exit) z m is own within = nobody code x _ _ _ refl (λ e. cc)
  by-outcome (Outcome.CallDone KernelCall.Create) z m is own within = nobody code x _ _ _ (told-refused _ _ _ _ refl) (λ e. cc)
  by-outcome (Outcome.CallDone KernelCall.Delete) z m is own within = nobody code x _ _ _ (told-refused _ _ _ _ refl) (λ e. cc)
  by-outcome (Outcome.CallDone KernelCall.Lock) z m is own within = nobody code x _ _ _ (told-refused _ _ _ _ refl) (λ e. cc)
  by-outcome (Outcome.CallDone KernelCall.Unlock) z m is own within = nobody code x _ _ _ (told-refused _ _ _ _ refl) (λ e. cc)
  by-outcome (Outcome.CallDone KernelCall.Slack) z m is own within = nobody code x _ _ _ (told-refused _ _ _ _ refl) (λ e. cc)
  by-outcome (Outcome.CallDone KernelCall.Put) z m is own within = nobody code x _ _ _ refl (λ e. cc)
  by-outcome (Outcome.CallDone KernelCall.Time) z m is own within = time-read z m is own within
  by-outcome (Outcome.CallDone KernelCall.Left) z m is own within = left-read z m is own within

-- ---- a tick of a world

-- what its entry and the contexts behind it show
record Tells (c : Configuration) (w v : World) (choice : Choice) (e : Entry) : Type 0 where
  named : (x : ThreadId) → quiet_caller e ≡ Some x → executes choice ≡ Some x
  reads : (x : ThreadId) → quiet_caller e ≡ Some x → IsBehindRead (w.images x.process).code ((v.images x.process).contexts x.serial)
      → ((tick_in c (w.images x.process) x.serial).outcome ≡ Outcome.CallDone KernelCall.Time) × (e.event ≡ None)
  only : (x : ThreadId) → executes choice ≡ Some x → (tick_in c (w.images x.process) x.serial).outcome ≡ Outcome.CallDone KernelCall.Time → e.event ≡ None
      → (quiet_caller e ≡ Some x) × IsBehindRead (w.images x.process).code ((v.images x.process).contexts x.serial)
  kept : (x : ThreadId) → executes choice ≡ Some x → (tick_in c (w.images x.process) x.serial).outcome ≡ Outcome.CallDone KernelCall.Time
      → option_map_or keeps_threads e.event true ≡ true → e.event ≡ None

quiet-tells : (c : Configuration) (w v : World) (choice : Choice) → executes choice ≡ None → Tells c w v choice (quiet_entry (label_of choice Work.Run))
quiet-tells c w v choice none = record {
  named = λ x is. let never : None ≡ Some x = sym (caller-run choice) ∙ is in absurd (cc);
  reads = λ x is behind. let never : None ≡ Some x = sym (caller-run choice) ∙ is in absurd (cc);
  only = λ x runs ends answered. let never : None ≡ Some x = sym none ∙ runs in absurd (cc);
  kept = λ x runs ends keeps. let never : None ≡ Some x = sym none ∙ runs in absurd (cc);
}

-- from what is shown of the thread that executes
shown-tells : (c : Configuration) (w v : World) (choice : Choice) (x : ThreadId) (e : Entry) → executes choice ≡ Some x
    → Shown (w.images x.process).code x (tick_in c (w.images x.process) x.serial).outcome e ((v.images x.process).contexts x.serial) → Tells c w v choice e
shown-tells c w v choice x e runs shown = record {
  named = λ y is. runs ∙ ap Some (shown.named y is);
  reads = λ y is.
      subst (λ (z : ThreadId). IsBehindRead (w.images z.process).code ((v.images z.process).contexts z.serial)
      → ((tick_in c (w.images z.process) z.serial).outcome ≡ Outcome.CallDone KernelCall.Time) × (e.event ≡ None)) (shown.named y is) (shown.reads y is);
  only = λ y runs'.
      let same : x ≡ y = (let both : Some x ≡ Some y = sym runs ∙ runs' in cc) in
      subst (λ (z : ThreadId). (tick_in c (w.images z.process) z.serial).outcome ≡ Outcome.CallDone KernelCall.Time → e.event ≡ None
      → (quiet_caller e ≡ Some z) × IsBehindRead (w.images z.process).code ((v.images z.process).contexts z.serial)) same shown.only;
  kept = λ y runs'.
      let same : x ≡ y = (let both : Some x ≡ Some y = sym runs ∙ runs' in cc) in
      subst (λ (z : ThreadId). (tick_in c (w.images z.process) z.serial).outcome ≡ Outcome.CallDone KernelCall.Time
      → option_map_or keeps_threads e.event true ≡ true → e.event ≡ None) same shown.kept;
}

-- a hold that lasted too long
broken-shown : (code : List ℕ) (x : ThreadId) (o : Outcome) (label : Label) (after : Context)
    → Shown code x o (record { label = label; event = Some (Event.Fault FaultKind.Hold) }) after
broken-shown code x o label after = record {
  named = λ y is. absurd (cc);
  reads = λ y is behind. absurd (cc);
  only = λ is answered. absurd (cc);
  kept = λ is keeps. absurd (cc);
}

body-tells : (c : Configuration) (w : World) (choice : Choice) (x : ThreadId) (e : Entry) → executes choice ≡ Some x → (body_step c choice w x).past ≡ e ∷ w.past
    → Tells c w (body_step c choice w x) choice e
body-tells c w choice x e runs adds =
    let turn : Turn = thread_turn c w.past choice x image tick in
    let here : turn.entry ≡ e = cc in
    let after : ((body_step c choice w x).images x.process).contexts x.serial ≡ turn.image.contexts x.serial =
    ap (λ (i : Image). i.contexts x.serial) (update-same x.process turn.image w.images) in
    shown-tells c w (body_step c choice w x) choice x e runs
    (subst (λ (z : Context). Shown image.code x tick.outcome e z) (sym after)
    (subst (λ (f : Entry). Shown image.code x tick.outcome f (turn.image.contexts x.serial)) here
    (at (breaks_hold c (held_by x w.past) (image.contexts x.serial) tick.outcome))))
  where
    image : Image
    image = w.images x.process

    tick : Tick
    tick = tick_in c image x.serial

    label : Label
    label = label_of choice (work_done tick.outcome)

    given : Effect
    given = effect c (length w.past) (quiet_entry label ∷ w.past) (thread_at c w.past x) (length image.code / 4) tick.context tick.outcome

    broken : Turn
    broken = record { entry = record { label = label; event = Some (Event.Fault FaultKind.Hold) }; image = image }

    whole : Turn
    whole = record { entry = record { label = label; event = given.event }; image = image_after image x.serial tick given }

    at : (b : Bool) → Shown image.code x tick.outcome (cond b broken whole).entry ((cond b broken whole).image.contexts x.serial)
    at true = broken-shown image.code x tick.outcome label (image.contexts x.serial)
    at false =
        by-outcome c (length w.past) (quiet_entry label ∷ w.past) (thread_at c w.past x) (length image.code / 4) image.code image.memory (image.contexts x.serial) image.contexts
        choice x runs tick.outcome tick.context tick.memory (called-tick c.costs.call image.code (image.contexts x.serial) image.memory)
        (own-tick c.costs.call image.code (image.contexts x.serial) image.memory)
        (has-instruction c.costs.call image.code (image.contexts x.serial) image.memory KernelCall.Time)

step-tells : (c : Configuration) (w : World) (choice : Choice) (o : Option ThreadId) (e : Entry) → executes choice ≡ o
    → (option_map_or (body_step c choice w) o (quiet_step choice w)).past ≡ e ∷ w.past → Tells c w (option_map_or (body_step c choice w) o (quiet_step choice w)) choice e
step-tells c w choice None e none adds =
    let here : quiet_entry (label_of choice Work.Run) ≡ e = cc in subst (Tells c w (quiet_step choice w) choice) here (quiet-tells c w (quiet_step choice w) choice none)
step-tells c w choice (Some x) e runs adds = body-tells c w choice x e runs adds

-- ---- a tick of a run

quiet-event : (label : Label) (event : Option Event) (x : ThreadId) → quiet_caller (record { label = label; event = event }) ≡ Some x → event ≡ None
quiet-event label None x is = refl
quiet-event label (Some event) x is = absurd (cc)

-- a thread that executed, in a tick without an event, runs on
still-there : (c : Configuration) (programs : List (List ℕ)) (n : ℕ) (e : Entry) (x : ThreadId) → trace c programs (n + 1) ≡ e ∷ trace c programs n → e.event ≡ None
    → Executing c (trace c programs n) x → RunsOn c programs (n + 1) x
still-there c programs n e x adds none ex =
    let past = trace c programs n in
    let keeps : option_map_or keeps_threads e.event true ≡ true = rw none refl in
    let stops-not : stops ex.live.id e ≡ false = stops-none c x.process (length past) ex.live.id e (idle c x.process (length past) e.event keeps) in
    record {
      process = ex.process;
      row = after_entry e (length past) ex.live;
      among = subst (λ (es : List Entry). Has (family c x.process es) (after_entry e (length past) ex.live)) (sym adds)
          (append-left (map (after_entry e (length past)) (family c x.process past)) _ _ (map-has (after_entry e (length past)) (family c x.process past) ex.live ex.has));
      name = ex.name;
      running = rw (ex.running, stops-not) refl;
    }

pub entries-show : RunsAreAudited → Always ChoosesWithCause → Always ChosenHolds → Always ThreadsPlaced → Always AskersThere → EntriesShowReads
entries-show audits causes works placed there c programs n e checked accepted adds = record {
  there = λ x is.
      still-there c programs n e x adds (quiet-event e.label e.event x is)
      (executing c past (chosen c past) x checked audited (placed c past checked accepted audited) (there c past checked accepted audited)
      (causes c past checked accepted audited) (works c past checked accepted audited) (tells.named x is));
  reads = λ x is has.
      let found = tells.reads x is (subst (λ code. IsBehindRead code (((world c programs (n + 1)).images x.process).contexts x.serial)) (sym (code-stays c programs x.process n)) has) in
      record { thread = x; process = refl; runs = tells.named x is; ends = found.0; answered = found.1 };
  only = λ p r.
      let found = tells.only r.thread r.runs r.ends r.answered in (
        r.thread,
        found.0,
        subst (λ code. IsBehindRead code (((world c programs (n + 1)).images r.thread.process).contexts r.thread.serial)) (code-stays c programs r.thread.process n) found.1,
      );
  quiet = λ keeps nobody-reads x runs ends.
      nobody-reads x.process (record { thread = x; process = refl; runs = runs; ends = ends; answered = tells.kept x runs ends keeps });
}
  where
    past : List Entry
    past = trace c programs n

    audited : Audited c past
    audited = audits c programs n checked accepted

    up : n + 1 ≡ suc n
    up = omega arith

    tells : Tells c (world c programs n) (world c programs (n + 1)) (chosen c past) e
    tells =
        subst (λ k. Tells c (world c programs n) (world c programs k) (chosen c past) e) (sym up)
        (step-tells c (world c programs n) (chosen c past) (executes (chosen c past)) e refl (sym (ap (trace c programs) up) ∙ adds))
