-- Lists of entries that follow the rules, or rules with another choice, told by computing.
use Rattle.dk_bound.proofs.Names.{ℕ, ◌≡◌, ◌==◌, Bool, true, false, not, cond, ◌&&◌, List, [], ◌∷◌, length, Option, Some, None, MatchOption, is_none, option_map_or, and_parts, Configuration, ThreadId, Work, Label, Choice, Event, Entry, thread_of, chosen, Thread, held_by, innermost_left, label_of, work_of, HasChosenLabel, MayHave, row_of, done_refusal, next_serial, HasNextSerial, without_event, ThreadFollows, Audited, nat_tests, arith}

abbrev pub Chooser : Type 0
Chooser = Configuration → List Entry → Choice

-- the rules with this choice
pub record FollowsBy (choose : Chooser) (c : Configuration) (past : List Entry) (e : Entry) : Type 0 where
  pub choice : HasChosenLabel (choose c past) e.label
  pub work : MayHave (work_of e.label) e.event
  pub thread : MatchOption (thread_of e.label) (Unit {0}) (ThreadFollows c past e)

abbrev pub AuditedBy : Chooser → Configuration → List Entry → Type 0
AuditedBy choose c [] = Unit {0}
AuditedBy choose c (e ∷ past) = AuditedBy choose c past × FollowsBy choose c past e

-- with the right choice they are the rules
pub audited-right : (c : Configuration) (past : List Entry) → AuditedBy chosen c past → Audited c past
audited-right c [] audited = tt
audited-right c (e ∷ past) (older, follows) =
    (audited-right c past older, record { choice = follows.choice; work = follows.work; thread = follows.thread })

abbrev is_calling : Label → Bool
is_calling (Label.Call x) = true
is_calling (Label.Slack x source Work.Call) = true
is_calling _ = false

-- the entries with the labels that are chosen
abbrev pub replay : Chooser → Configuration → List Entry → List Entry
replay choose c [] = []
replay choose c (e ∷ past) =
    record { label = label_of (choose c past) (cond (is_calling e.label) Work.Call Work.Run); event = e.event } ∷ replay choose c past

either-label : (choice : Choice) (label : Label) (call : Bool) → label_of choice (cond call Work.Call Work.Run) ≡ label → HasChosenLabel choice label
either-label choice label call h = grind (arith, nat_tests)

abbrev may_have : Work → Option Event → Bool
may_have work None = true
may_have Work.Call (Some (Event.Fault kind)) = false
may_have Work.Call (Some event) = true
may_have _ (Some event) = false

may-have : (work : Work) (event : Option Event) → may_have work event ≡ true → MayHave work event
may-have work None h = tt
may-have Work.In (Some event) h = absurd (cc)
may-have Work.Run (Some event) h = absurd (cc)
may-have Work.Call (Some (Event.Fault kind)) h = absurd (cc)
may-have Work.Call (Some event) h = tt

-- no fault, and a create of the next serial
abbrev has_serial : Configuration → List Entry → ThreadId → Event → Bool
has_serial c past x (Event.Fault kind) = false
has_serial c past x (Event.Create serial level quota) = serial == next_serial c past x.process
has_serial c past x _ = true

has-serial : (c : Configuration) (past : List Entry) (x : ThreadId) (event : Event) → has_serial c past x event ≡ true → HasNextSerial c past x event
has-serial c past x event h = grind (arith, nat_tests)

abbrev is_met : Configuration → List Entry → Entry → ThreadId → Option Event → Bool
is_met c past e x None = true
is_met c past e x (Some event) =
    has_serial c past x event && option_map_or (λ row. is_none (done_refusal c (length past) (without_event e ∷ past) row event)) (row_of c past x) false

not-refused : (c : Configuration) (now : ℕ) (past : List Entry) (event : Event) (row : Option Thread)
    → option_map_or (λ x. is_none (done_refusal c now past x event)) row false ≡ true → MatchOption row ⊥ (λ x. done_refusal c now past x event ≡ None)
not-refused c now past event row h = grind (arith, nat_tests)

met-by : (c : Configuration) (past : List Entry) (e : Entry) (x : ThreadId) (event : Option Event) → is_met c past e x event ≡ true
    → MatchOption event (Unit {0}) (λ event.
    HasNextSerial c past x event
    × MatchOption (row_of c past x) ⊥ (λ row. done_refusal c (length past) (without_event e ∷ past) row event ≡ None))
met-by c past e x None h = tt
met-by c past e x (Some event) h =
    let both = and_parts (has_serial c past x event) _ h in
    (has-serial c past x event both.0, not-refused c (length past) (without_event e ∷ past) event (row_of c past x) both.1)

-- no hold of the thread is in its last tick
abbrev is_fine_for : Configuration → List Entry → Entry → ThreadId → Bool
is_fine_for c past e x = not (innermost_left c (held_by x past) == 1) && is_met c past e x e.event

thread-follows : (c : Configuration) (past : List Entry) (e : Entry) (x : ThreadId) → is_fine_for c past e x ≡ true → ThreadFollows c past e x
thread-follows c past e x h =
    let both = and_parts (not (innermost_left c (held_by x past) == 1)) _ h in
    record {
      fault = λ is. absurd (let met : is_met c past e x e.event ≡ true = both.1 in let met' = rw is at met in cc);
      last = λ is. absurd (let early : not (innermost_left c (held_by x past) == 1) ≡ true = both.0 in let early' = rw is at early in cc);
      met = met-by c past e x e.event both.1;
    }

some-follows : (c : Configuration) (past : List Entry) (e : Entry) (o : Option ThreadId) → option_map_or (is_fine_for c past e) o true ≡ true
    → MatchOption o (Unit {0}) (ThreadFollows c past e)
some-follows c past e None h = tt
some-follows c past e (Some x) h = thread-follows c past e x h

abbrev pub are_fine : Configuration → List Entry → Bool
are_fine c [] = true
are_fine c (e ∷ past) = are_fine c past && (may_have (work_of e.label) e.event && option_map_or (is_fine_for c past e) (thread_of e.label) true)

pub replayed : (choose : Chooser) (c : Configuration) (past : List Entry) → are_fine c past ≡ true → replay choose c past ≡ past → AuditedBy choose c past
replayed choose c [] fine same = tt
replayed choose c (e ∷ past) fine same =
    let both = and_parts (are_fine c past) _ fine in
    let own = and_parts (may_have (work_of e.label) e.event) _ both.1 in
    let older : replay choose c past ≡ past = cc in
    let chosen_label : label_of (choose c past) (cond (is_calling e.label) Work.Call Work.Run) ≡ e.label = cc in (
      replayed choose c past both.0 older,
      record {
        choice = either-label (choose c past) e.label (is_calling e.label) chosen_label;
        work = may-have (work_of e.label) e.event own.0;
        thread = some-follows c past e (thread_of e.label) own.1;
      },
    )
