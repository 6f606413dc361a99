-- The thread that has a tick, and what the rules ask of it.
use Rattle.dk_audit.proofs.Names.{◌≡◌, ◌∷◌, Bool, true, false, not, inl, inr, List, length, Option, Some, None, MatchOption, refl, ap, ◌∙◌, sym, subst, ◌↔◌, IsTrue, FaultKind, Configuration, ThreadId, Phase, Work, Label, Choice, Event, Entry, thread_of, Hold, held_by, ends_hold, innermost_left, chosen, Follows, HasChosenLabel, HasNextSerial, ThreadFollows, done_refusal, label_of, row_of, without_event, Always, ChoosesKnown, IsKnown, IsRuled, IsUntold, KeepsHold, Obeys}

pub at-thread : (P : ThreadId → Type 0) (o : Option ThreadId) (x : ThreadId) → o ≡ Some x → P x → MatchOption o (Unit {0}) P
at-thread P o x is p = subst (λ o. MatchOption o (Unit {0}) P) (sym is) p

pub of-thread : (P : ThreadId → Type 0) (o : Option ThreadId) (x : ThreadId) → o ≡ Some x → MatchOption o (Unit {0}) P → P x
of-thread P o x is p = let q : MatchOption (Some x) (Unit {0}) P = subst (λ o. MatchOption o (Unit {0}) P) is p in q

pub map-thread : (P Q : ThreadId → Type 0) (o : Option ThreadId) → ((x : ThreadId) → P x → Q x) → MatchOption o (Unit {0}) P → MatchOption o (Unit {0}) Q
map-thread P Q None f p = tt
map-thread P Q (Some x) f p = f x p

-- a tick's thread is the same whatever it does in its body
same-thread : (choice : Choice) → thread_of (label_of choice Work.Call) ≡ thread_of (label_of choice Work.Run)
same-thread (Choice.Kernel i) = refl
same-thread (Choice.Budget x Phase.In) = refl
same-thread (Choice.Budget x Phase.Body) = refl
same-thread (Choice.Budget x Phase.Out) = refl
same-thread (Choice.Slack x source Phase.In) = refl
same-thread (Choice.Slack x source Phase.Body) = refl
same-thread (Choice.Slack x source Phase.Out) = refl
same-thread Choice.Idle = refl

chosen-thread : (choice : Choice) (label : Label) (x : ThreadId) → HasChosenLabel choice label → thread_of label ≡ Some x → thread_of (label_of choice Work.Run) ≡ Some x
chosen-thread choice label x chose own =
    elim chose [
      | inl is ↦ ap thread_of (sym is) ∙ own
      | inr is ↦ sym (same-thread choice) ∙ ap thread_of (sym is) ∙ own
    ]

-- the thread that has the tick has a row
pub known-row : Always ChoosesKnown → (c : Configuration) (past : List Entry) (label : Label) (x : ThreadId) → IsRuled c past
    → HasChosenLabel (chosen c past) label → thread_of label ≡ Some x → IsKnown c past x
known-row law c past label x ruled chose own =
    law c past ruled.checked ruled.accepted ruled.audited x (chosen-thread (chosen c past) label x chose own)

-- a tick without an event follows the rules where it obeys them so far
-- a tick without an event meets what the rules ask of an event
none-meets : (o : Option Event) (P : Event → Type 0) → o ≡ None → MatchOption o (Unit {0}) P
none-meets o P none = subst (λ o. MatchOption o (Unit {0}) P) (sym none) tt

pub quiet-follows : (c : Configuration) (past : List Entry) (e : Entry) → HasChosenLabel (chosen c past) e.label → Obeys c past e → e.event ≡ None → Follows c past e
quiet-follows c past e chose obeys none = record {
  choice = chose;
  work = obeys.work;
  thread = map-thread (λ x. KeepsHold c (held_by x past) e.event) (ThreadFollows c past e) (thread_of e.label)
      (λ x keeps. record { fault = keeps.fault; last = keeps.last; met = none-meets e.event (λ event. HasNextSerial c past x event × MatchOption (row_of c past x) ⊥ (λ row. done_refusal c (length past) (without_event e ∷ past) row event ≡ None)) none }) obeys.hold;
}

-- of a tick without an event the tables have the entry whole
pub none-untold : (o : Option Event) → o ≡ None → IsUntold o
none-untold o none = subst IsUntold (sym none) tt

-- The holds.

pub keeps-last : (c : Configuration) (held : List Hold) (event : Option Event) (b : Bool) → innermost_left c held ≡ 1 → b ≡ ends_hold event held → IsTrue b ↔ KeepsHold c held event
keeps-last c held event b left is = (
  λ yes'. record { fault = λ f. left; last = λ l. sym is ∙ yes' },
  λ keeps. is ∙ keeps.last left,
)

pub keeps-other : (c : Configuration) (held : List Hold) (event : Option Event) (b : Bool) → (innermost_left c held ≡ 1 → ⊥) → (IsTrue b ↔ (event ≡ Some (Event.Fault FaultKind.Hold)))
    → IsTrue (not b) ↔ KeepsHold c held event
keeps-other c held event true other tests = (λ never. absurd (cc), λ keeps. absurd (other (keeps.fault (tests.0 refl))))
keeps-other c held event false other tests = (
  λ yes'. record { fault = λ f. (let never : false ≡ true = tests.1 f in absurd (cc)); last = λ l. absurd (other l) },
  λ keeps. refl,
)
