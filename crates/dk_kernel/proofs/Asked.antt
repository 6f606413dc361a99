-- The call that is asked for, and what an instruction does.
use Rattle.dk_kernel.proofs.Names.{ℕ, ◌≡◌, ◌+◌, ◌*◌, ◌∷◌, ◌∙◌, ◌≤◌, length, Option, Some, None, arith, refl, ap, sym, subst, FaultKind, ThreadId, Work, Label, Event, Refusal, Thread, Follows, done_refusal, label_of, Outcome, KernelCall, State, stopped, entry_of, CallerIsThere, Keeps, call-label, label-thread, Effect, done, or_refused, unanswered, Past, call_entry, call_label, choice_at, with_entry, with_event, Dispatched, slots, IsDone, IsEnding, IsInCall, IsRefused, call_refusal, Executor, plain, plain_done, plain_refused, snapshot, Calls, HasDone, MayEffect, after_told, at_call, caller, effect_at, effect_of, finished}
use Rattle.dk_kernel.proofs.Called.{few-by, own-entry, refusal-at, same-rows}

-- the effect of a call that may be refused
abbrev pub done_or_refused : ThreadId → Event → Past → Effect
done_or_refused x event p = or_refused (done_refusal p.config (length p.entries) (at_call p) (caller p x) event) (done event)

module _ {executor : Executor} {old new : Dispatched} {state written : State} {place : Option Event} {before after : ℕ} where
  -- the call that is asked for
  pub asked : {a b : KernelCall} → a ≡ b → HasDone (Outcome.CallDone b) executor (snapshot old state before) (snapshot new written after) place
      → HasDone (Outcome.CallDone a) executor (snapshot old state before) (snapshot new written after) place
  asked is call = subst (λ a. HasDone (Outcome.CallDone a) executor (snapshot old state before) (snapshot new written after) place) (sym is) call

  -- and of an equal argument
  pub argued : (given : ℕ → Past → Effect) → {a b : ℕ} → a ≡ b → Calls (given a) executor (snapshot old state before) (snapshot new written after) place
      → Calls (given b) executor (snapshot old state before) (snapshot new written after) place
  argued given same call = subst (λ k. Calls (given k) executor (snapshot old state before) (snapshot new written after) place) same call

-- whose call ends is in it
pub in-call : (executor : Executor) (o : Outcome) (p : Past) (state : State) → MayEffect executor o p state → IsInCall executor.thread p
in-call executor o p state may = record {
  charged = may.charged;
  caller = label-thread (choice_at p) Work.Call executor.thread may.runs;
  call = call-label (choice_at p) executor.thread may.runs;
}

-- The call that is asked for may be refused. Its event is that of an argument, which is read for the given one.
module _ {executor : Executor} {old new : Dispatched} {state written : State} {place : Option Event} {before after : ℕ} {call kind : KernelCall} {read given : ℕ}
    (callers : (x : ThreadId) → IsInCall x old.past → CallerIsThere old.past.config (call_label old.past) old.past.entries x)
    (may : MayEffect executor (Outcome.CallDone call) old.past state) (is : call ≡ kind) (same : read ≡ given) (event : ℕ → Event)
    (means : Calls (done_or_refused executor.thread (event given)) executor (snapshot old state before) (snapshot new written after) place
    → HasDone (Outcome.CallDone kind) executor (snapshot old state before) (snapshot new written after) place) where
  abbrev x : ThreadId
  x = executor.thread

  abbrev test : Thread → Option Refusal
  test row = done_refusal old.past.config (length old.past.entries) (at_call old.past) row (event read)

  -- the past's refusal is the one of the caller's row
  refuses : (answer : Option Refusal) → call_refusal old.past x (event read) ≡ answer → test (caller old.past x) ≡ answer
  refuses answer told = sym (refusal-at x old.past (callers x (in-call executor (Outcome.CallDone call) old.past state may)) test) ∙ told

  by : Calls (done_or_refused x (event read)) executor (snapshot old state before) (snapshot new written after) place
      → HasDone (Outcome.CallDone call) executor (snapshot old state before) (snapshot new written after) place
  by did = asked is (means (argued (λ a. done_or_refused x (event a)) same did))

  -- it is done, and the event is named so
  pub call-done : {named : Event} → IsDone x (event read) old new → named ≡ event read
      → after_told (Some (event read)) (call_entry old.past (event read)) old.past ≡ with_event (event read) old.past
      → Keeps (slots old) (slots new) → after ≤ before + length old.past.config.levels + 6
      → written ≡ finished state executor.slot (plain_done named) → place ≡ Some named
      → HasDone (Outcome.CallDone call) executor (snapshot old state before) (snapshot new written after) place
  call-done {named} told names booked keeps few image wrote = by (record {
    done = plain_done named;
    effect = ap (λ e. effect_of (plain_done e)) names ∙ sym (ap (λ r. or_refused r (done (event read))) (refuses None told.met));
    past = told.past ∙ sym (ap (λ e. after_told (Some e) (call_entry old.past e) old.past) names ∙ booked);
    rows = keeps;
    steps = few-by (length old.past.config.levels) (stopped old.past.config (call_entry old.past named ∷ old.past.entries)) before after few;
    image = image;
    event = wrote;
  })

  -- it is refused
  pub call-refused : {why : Refusal} → IsRefused x (event read) old new why → after ≤ before + length old.past.config.levels + 6
      → written ≡ finished state executor.slot (plain_refused why) → place ≡ Some (Event.Refused why)
      → HasDone (Outcome.CallDone call) executor (snapshot old state before) (snapshot new written after) place
  call-refused {why} told few image wrote = by (record {
    done = plain_refused why;
    effect = sym (ap (λ r. or_refused r (done (event read))) (refuses (Some why) told.reason));
    past = ap (λ (d : Dispatched). d.past) told.same;
    rows = same-rows old new (ap (λ (d : Dispatched). d.threads) told.same);
    steps = few-by (length old.past.config.levels) (stopped old.past.config (call_entry old.past (Event.Refused why) ∷ old.past.entries)) before after few;
    image = image;
    event = wrote;
  })

-- an exit follows the rules where the call that is asked for does
pub exit-ending : (executor : Executor) (call : KernelCall) (p : Past) (state : State) → call ≡ KernelCall.Exit → MayEffect executor (Outcome.CallDone call) p state
    → IsEnding executor.thread (call_entry p Event.Exit) p
exit-ending executor call p state is may = record {
  charged = may.charged;
  follows = subst (λ a. Follows p.config p.entries (entry_of (call_label p) (effect_at p executor (Outcome.CallDone a) state).event)) is may.follows;
  own = own-entry executor.thread (call_entry p Event.Exit) (label-thread (choice_at p) Work.Call executor.thread may.runs);
  end = refl;
}

-- an instruction that does nothing beside its own
pub quietly : (executor : Executor) (old : Dispatched) (state : State) (place : Option Event) (n : ℕ) (o : Outcome)
    → effect_at old.past executor o state ≡ unanswered None → place ≡ None → HasDone o executor (snapshot old state n) (snapshot old state n) place
quietly executor old state place n o is none = record {
  done = plain None;
  effect = sym is;
  past = refl;
  rows = λ y s here. here;
  steps = few-by _ _ n n (omega arith);
  image = refl;
  event = none;
}

-- and one that is a fault
pub faults : (executor : Executor) (old new : Dispatched) (state : State) (before after : ℕ) (o : Outcome) (kind : FaultKind) (label : Label) → o ≡ Outcome.Fault kind
    → label ≡ label_of (choice_at old.past) Work.Run → new.past ≡ with_entry (entry_of label (Some (Event.Fault kind))) old.past → Keeps (slots old) (slots new)
    → after ≤ before + (length old.past.config.levels + 6) * (stopped old.past.config (entry_of label (Some (Event.Fault kind)) ∷ old.past.entries) + 1)
    → HasDone o executor (snapshot old state before) (snapshot new state after) (Some (Event.Fault kind))
faults executor old new state before after o kind label is same next keeps few =
    subst (λ o. HasDone o executor (snapshot old state before) (snapshot new state after) (Some (Event.Fault kind))) (sym is)
    (record {
      done = plain (Some (Event.Fault kind));
      effect = refl;
      past = next ∙ ap (λ l. with_entry (entry_of l (Some (Event.Fault kind))) old.past) same;
      rows = keeps;
      steps = subst (λ l. after ≤ before + (length old.past.config.levels + 6) * (stopped old.past.config (entry_of l (Some (Event.Fault kind)) ∷ old.past.entries) + 1)) same few;
      image = refl;
      event = refl;
    })
