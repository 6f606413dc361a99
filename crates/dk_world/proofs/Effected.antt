-- What every effect of a call has that each kind of effect has.
use Rattle.dk_world.proofs.Names.{ℕ, ◌≡◌, List, Option, Some, None, ap, subst, Configuration, FaultKind, Refusal, Event, Entry, Thread, thread_body_left, next_serial, create_refusal, delete_refusal, lock_refusal, slack_refusal, unlock_refusal, wait_refusal, Context, Outcome, KernelCall, reg, Effect, answers, call_effect, creates, done, effect, or_refused, refused, nat_tests, arith}

-- an event of a call that is done, and isn't a create
abbrev pub IsPlain : Event → Type 0
IsPlain (Event.Fault kind) = ⊥
IsPlain (Event.Create serial level quota) = ⊥
IsPlain (Event.Refused refusal) = ⊥
IsPlain _ = Unit {0}

module _ (P : Effect → Type 0) (context : Context) (refuses : (why : Refusal) → P (refused why)) (plain : (event : Event) → IsPlain event → P (done event))
    (births : (serial : ℕ) → P (creates serial context)) (says : (value : ℕ) → P (answers value)) where
  or-has : (o : Option Refusal) (f : Effect) → P f → P (or_refused o f)
  or-has None f one = one
  or-has (Some why) f one = refuses why

  pub call-has : (c : Configuration) (now : ℕ) (past : List Entry) (x : Thread) (instructions : ℕ) (call : KernelCall)
      → P (call_effect c now past x instructions context call)
  call-has c now past x instructions KernelCall.Wait = or-has (wait_refusal past x) (done Event.Wait) (plain _ tt)
  call-has c now past x instructions KernelCall.Exit = plain _ tt
  call-has c now past x instructions KernelCall.Create =
      or-has (create_refusal c now past x (reg context 1) (reg context 2) (reg context 3) instructions) (creates (next_serial c past x.id.process) context) (births _)
  call-has c now past x instructions KernelCall.Delete = or-has (delete_refusal c past x (reg context 1)) (done (Event.Delete (reg context 1))) (plain _ tt)
  call-has c now past x instructions KernelCall.Lock = or-has (lock_refusal c now past x (reg context 1)) (done (Event.Lock (reg context 1))) (plain _ tt)
  call-has c now past x instructions KernelCall.Unlock = or-has (unlock_refusal past x (reg context 1)) (done (Event.Unlock (reg context 1))) (plain _ tt)
  call-has c now past x instructions KernelCall.Slack = or-has (slack_refusal c x (reg context 1)) (done (Event.Slack (reg context 1))) (plain _ tt)
  call-has c now past x instructions KernelCall.Put = plain _ tt
  call-has c now past x instructions KernelCall.Time = says now
  call-has c now past x instructions KernelCall.Left = says (thread_body_left c now past x)

-- a fault is the outcome's
pub effect-faults : (kind : FaultKind) (c : Configuration) (now : ℕ) (past : List Entry) (x : Thread) (instructions : ℕ) (context : Context) (o : Outcome)
    → (effect c now past x instructions context o).event ≡ Some (Event.Fault kind) → o ≡ Outcome.Fault kind
effect-faults kind c now past x instructions context Outcome.Ran is = absurd (cc)
effect-faults kind c now past x instructions context Outcome.InCall is = absurd (cc)
effect-faults kind c now past x instructions context (Outcome.Fault k) is = let same : k ≡ kind = cc in ap Outcome.Fault same
effect-faults kind c now past x instructions context (Outcome.CallDone n) is =
    absurd (call-has (λ (f : Effect). f.event ≡ Some (Event.Fault kind) → ⊥) context
    (λ why same. cc) (λ event plain same. let fault : event ≡ Event.Fault kind = cc in subst IsPlain fault plain) (λ serial same. cc) (λ value same. cc)
    c now past x instructions n is)

-- an effect with the event of a create is that of the create
pub record IsBirth (context : Context) (serial level quota : ℕ) (f : Effect) : Type 0 where
  pub is : f ≡ creates serial context
  pub level_is : level ≡ reg context 1
  pub quota_is : quota ≡ reg context 2

made : (context : Context) (serial level quota n : ℕ) → (creates n context).event ≡ Some (Event.Create serial level quota) → IsBirth context serial level quota (creates n context)
made context serial level quota n same = grind (arith, nat_tests)

pub effect-creates : (c : Configuration) (now : ℕ) (past : List Entry) (x : Thread) (instructions : ℕ) (context : Context) (serial level quota : ℕ) (o : Outcome)
    → (effect c now past x instructions context o).event ≡ Some (Event.Create serial level quota) → IsBirth context serial level quota (effect c now past x instructions context o)
effect-creates c now past x instructions context serial level quota Outcome.Ran is = absurd (cc)
effect-creates c now past x instructions context serial level quota Outcome.InCall is = absurd (cc)
effect-creates c now past x instructions context serial level quota (Outcome.Fault k) is = absurd (cc)
effect-creates c now past x instructions context serial level quota (Outcome.CallDone n) is =
    call-has (λ (f : Effect). f.event ≡ Some (Event.Create serial level quota) → IsBirth context serial level quota f) context
    (λ why same. absurd (cc)) (λ event plain same. let create : event ≡ Event.Create serial level quota = cc in absurd (subst IsPlain create plain)) (made context serial level quota) (λ value same. absurd (cc))
    c now past x instructions n is
