-- The event of a tick's entry, as the calls of the dispatcher book it.
use Rattle.dk_audit.proofs.Names.{ℕ, ◌≡◌, ◌∷◌, ◌++◌, [], Bool, true, false, inl, inr, List, length, map, Option, Some, None, MatchOption, refl, ap, ◌∙◌, sym, subst, length-append, add-zero, ◌↔◌, IsTrue, if◌then◌else◌, Result, Ok, Err, MatchResult, is_ok, option_map_or, length-map, Configuration, ThreadId, Phase, Work, Label, Choice, Refusal, Event, Entry, has_event, is_end, is_of, thread_of, quiet, Thread, after_entry, family, held_by, Follows, HasNextSerial, MayHave, ThreadFollows, done_refusal, label_of, next_serial, row_of, work_of, thread-of, ThreadRow, Always, ChoosesKnown, IsKnown, IsUntold, Past, call_entry, call_label, choice_at, with_entry, with_event, Dispatched, IsCreated, IsDone, IsEnding, IsInCall, IsNotCreated, IsRefused, Books, IsBookedIf, IsEventOpen, KeepsHold}
use Rattle.dk_audit.proofs.Threads.{at-thread, known-row, of-thread}

abbrev pub is_fault : Event → Bool
is_fault (Event.Fault kind) = true
is_fault _ = false

-- an event that is no fault is of a call
call-work : (work : Work) (event : Event) → is_fault event ≡ false → MayHave work (Some event) → work ≡ Work.Call
call-work Work.Call event plain may = refl
call-work Work.In event plain may = absurd may
call-work Work.Run (Event.Fault kind) plain may = absurd (cc)
call-work Work.Run event plain may = absurd may

-- only a thread's tick has an event
pub no-event : (label : Label) (event : Event) → thread_of label ≡ None → MayHave (work_of label) (Some event) → ⊥
no-event (Label.Kernel i) event none may = absurd may
no-event Label.Idle event none may = absurd may
no-event label event none may = absurd (cc)

-- and has the label of a call
never-calls : (choice : Choice) → work_of (label_of choice Work.Run) ≡ Work.Call → ⊥
never-calls (Choice.Kernel i) is = absurd (cc)
never-calls (Choice.Budget x Phase.In) is = absurd (cc)
never-calls (Choice.Budget x Phase.Body) is = absurd (cc)
never-calls (Choice.Budget x Phase.Out) is = absurd (cc)
never-calls (Choice.Slack x source Phase.In) is = absurd (cc)
never-calls (Choice.Slack x source Phase.Body) is = absurd (cc)
never-calls (Choice.Slack x source Phase.Out) is = absurd (cc)
never-calls Choice.Idle is = absurd (cc)

-- what the rules ask of the event itself
abbrev Meets : Configuration → Label → List Entry → ThreadId → Event → Type 0
Meets c label past x event =
    HasNextSerial c past x event × MatchOption (row_of c past x) ⊥ (λ row. done_refusal c (length past) (quiet label ∷ past) row event ≡ None)

row-meets : (o : Option Thread) (row : Thread) (test : Thread → Option Refusal) → o ≡ Some row → option_map_or test o None ≡ None → MatchOption o ⊥ (λ r. test r ≡ None)
row-meets None row test is none = absurd (cc)
row-meets (Some r) row test is none = none

row-refuses : (o : Option Thread) (test : Thread → Option Refusal) (why : Refusal) → option_map_or test o None ≡ Some why → MatchOption o ⊥ (λ r. test r ≡ None) → ⊥
row-refuses None test why some met = met
row-refuses (Some r) test why some met = absurd (cc)

-- the event of the open tick's entry, of its thread
module _ (x : ThreadId) (event : Event) (e : Entry) (p : Past) (is : IsEventOpen x event e p) where
  abbrev What : Event → Type 0
  What v = HasNextSerial p.config p.entries x v
      × MatchOption (row_of p.config p.entries x) ⊥ (λ row. done_refusal p.config (length p.entries) (quiet e.label ∷ p.entries) row v ≡ None)

  follows-by : Meets p.config e.label p.entries x event → Follows p.config p.entries e
  follows-by meets =
      let keeps = of-thread (λ y. KeepsHold p.config (held_by y p.entries) e.event) (thread_of e.label) x is.own is.open_tick.obeys.hold in
      record {
        choice = is.open_tick.chose;
        work = is.open_tick.obeys.work;
        thread = at-thread (ThreadFollows p.config p.entries e) (thread_of e.label) x is.own
            (record { fault = keeps.fault; last = keeps.last; met = subst (λ o. MatchOption o (Unit {0}) What) (sym is.ends) meets });
      }

  meets-by : Follows p.config p.entries e → Meets p.config e.label p.entries x event
  meets-by follows =
      let met = (of-thread (ThreadFollows p.config p.entries e) (thread_of e.label) x is.own follows.thread).met in
      let both : MatchOption (Some event) (Unit {0}) What = subst (λ o. MatchOption o (Unit {0}) What) is.ends met in
      both

  known : Always ChoosesKnown → IsKnown p.config p.entries x
  known chooses = known-row chooses p.config p.entries e.label x is.open_tick.ruled is.open_tick.chose is.own

  -- the rules ask nothing more of it: an exit, a fault, a put, a refusal
  abbrev pub IsFree : Type 0
  IsFree =
      (row : Thread) → HasNextSerial p.config p.entries x event × (done_refusal p.config (length p.entries) (quiet e.label ∷ p.entries) row event ≡ None)

  free-follows : Always ChoosesKnown → IsFree → Follows p.config p.entries e
  free-follows chooses free =
      let row = known chooses in
      let meets = free row.row in
      follows-by (meets.0, subst (λ o. MatchOption o ⊥ (λ r. done_refusal p.config (length p.entries) (quiet e.label ∷ p.entries) r event ≡ None)) (sym row.found) meets.1)

  -- the tables aren't told of it
  pub untold-booked : Always ChoosesKnown → IsFree → IsUntold (Some event) → Books e p p
  untold-booked chooses free untold = record {
    whole = record { follows = free-follows chooses free; told = inr (is.open_tick.charged, subst IsUntold (sym is.ends) untold) };
    config = refl;
    entries = refl;
  }

  -- an exit or a fault stops the thread
  pub ending : Always ChoosesKnown → IsFree → is_end event ≡ true → IsEnding x e p
  ending chooses free end = record {
    charged = is.open_tick.charged;
    follows = free-follows chooses free;
    own = thread-of x e is.own;
    end = subst (λ o. has_event is_end (record { label = e.label; event = o }) ≡ true) (sym is.ends) end;
  }

  booked : (new : Past) → new ≡ with_entry e p → Follows p.config p.entries e → Books e p new
  booked new next follows =
      subst (Books e p) (sym next) (record { whole = record { follows = follows; told = inl refl }; config = refl; entries = refl })

  pub end-booked : Always ChoosesKnown → IsFree → (new : Past) → new ≡ with_entry e p → Books e p new
  end-booked chooses free new next = booked new next (free-follows chooses free)

  -- A call.
  module _ (plain : is_fault event ≡ false) where
    works : work_of e.label ≡ Work.Call
    works = call-work (work_of e.label) event plain (subst (MayHave (work_of e.label)) is.ends is.open_tick.obeys.work)

    label-is : e.label ≡ call_label p
    label-is = elim is.open_tick.chose [ inl ran ↦ absurd (never-calls (choice_at p) (sym (ap work_of ran) ∙ works)) | inr called ↦ called ]

    entry-is : call_entry p event ≡ e
    entry-is = ap (λ l. record { label = l; event = Some event }) (sym label-is) ∙ ap (λ o. record { label = e.label; event = o }) (sym is.ends)

    pub in-call : IsInCall x p
    in-call = record { charged = is.open_tick.charged; caller = ap thread_of (sym label-is) ∙ is.own; call = ap work_of (sym label-is) ∙ works }

    tested : (o : Option Refusal) → option_map_or (λ row. done_refusal p.config (length p.entries) (quiet (call_label p) ∷ p.entries) row event) (row_of p.config p.entries x) None ≡ o
        → option_map_or (λ row. done_refusal p.config (length p.entries) (quiet e.label ∷ p.entries) row event) (row_of p.config p.entries x) None ≡ o
    tested o told =
        ap (λ l. option_map_or (λ row. done_refusal p.config (length p.entries) (quiet l ∷ p.entries) row event) (row_of p.config p.entries x) None) label-is ∙ told

    called : Always ChoosesKnown → HasNextSerial p.config p.entries x event
        → option_map_or (λ row. done_refusal p.config (length p.entries) (quiet (call_label p) ∷ p.entries) row event) (row_of p.config p.entries x) None ≡ None
        → (new : Past) → new ≡ with_event event p → Books e p new
    called chooses serial met new next =
        let row = known chooses in
        booked new (next ∙ ap (λ entry. with_entry entry p) entry-is)
        (follows-by (serial, row-meets (row_of p.config p.entries x) row.row (λ r. done_refusal p.config (length p.entries) (quiet e.label ∷ p.entries) r event) row.found (tested None met)))

    refused : (why : Refusal) → option_map_or (λ row. done_refusal p.config (length p.entries) (quiet (call_label p) ∷ p.entries) row event) (row_of p.config p.entries x) None ≡ Some why
        → Follows p.config p.entries e → ⊥
    refused why told follows =
        row-refuses (row_of p.config p.entries x) (λ r. done_refusal p.config (length p.entries) (quiet e.label ∷ p.entries) r event) why (tested (Some why) told)
        (meets-by follows).1

-- a call is booked where it isn't refused
module _ (x : ThreadId) (event : Event) (e : Entry) (old new : Dispatched) (is : IsEventOpen x event e old.past) (plain : is_fault event ≡ false)
    (chooses : Always ChoosesKnown) where
  judged : {T : Type 0} (r : Result T Refusal) → HasNextSerial old.past.config old.past.entries x event → MatchResult r (λ done. IsDone x event old new) (IsRefused x event old new)
      → IsBookedIf (is_ok r) e old.past new.past
  judged (Ok done) serial told = called x event e old.past is plain chooses serial told.met new.past told.past
  judged (Err why) serial told = refused x event e old.past is plain why told.reason

  pub call-judged : {T : Type 0} (r : Result T Refusal) (b : Bool) → b ≡ is_ok r → HasNextSerial old.past.config old.past.entries x event
      → MatchResult r (λ done. IsDone x event old new) (IsRefused x event old new) → IsBookedIf b e old.past new.past
  call-judged r b same serial told = subst (λ t. IsBookedIf t e old.past new.past) (sym same) (judged r serial told)

length-with : {X : Type 0} (f : X → X) (xs : List X) (b : Bool) → length (map f xs ++ (if b then [] else [])) ≡ length xs
length-with f xs true = rw (length-append, length-map, add-zero)
length-with f xs false = rw (length-append, length-map, add-zero)

next_serial-quiet : (c : Configuration) (label : Label) (past : List Entry) (p : ℕ) → next_serial c (quiet label ∷ past) p ≡ next_serial c past p
next_serial-quiet c label past p =
    length-with (after_entry (quiet label) (length past)) (family c p past) (is_of (record { process = p; serial = 0 }) (quiet label))

-- a create is booked where it isn't refused and makes the child of that serial
pub create-booked : (x : ThreadId) (serial level quota : ℕ) (e : Entry) (old new : Dispatched) → Always ChoosesKnown → IsEventOpen x (Event.Create serial level quota) e old.past
    → (row : ThreadRow) (b : Bool) → IsTrue b ↔ (row.id.serial ≡ serial) → IsCreated x level quota 0 1 old new row → IsBookedIf b e old.past new.past
create-booked x serial level quota e old new chooses is row true same made =
    let p = old.past in
    let own : row.id.serial ≡ serial = same.0 refl in
    let next : serial ≡ next_serial p.config p.entries x.process = sym own ∙ ap (λ (r : ThreadRow). r.id.serial) made.child ∙ next_serial-quiet p.config (call_label p) p.entries x.process in
    called x (Event.Create serial level quota) e p is refl chooses next made.met new.past (made.past ∙ ap (λ s. with_event (Event.Create s level quota) p) own)
create-booked x serial level quota e old new chooses is row false other made = λ follows.
    let p = old.past in
    let next = (meets-by x (Event.Create serial level quota) e p is follows).0 in
    let own : row.id.serial ≡ serial = ap (λ (r : ThreadRow). r.id.serial) made.child ∙ next_serial-quiet p.config (call_label p) p.entries x.process ∙ sym next in
    let never : false ≡ true = other.1 own in absurd (cc)

-- and isn't where it is refused
pub create-refused : (x : ThreadId) (serial level quota : ℕ) (e : Entry) (old new : Dispatched) → IsEventOpen x (Event.Create serial level quota) e old.past
    → (why : Refusal) → IsNotCreated x level quota 0 1 old new why → Follows old.past.config old.past.entries e → ⊥
create-refused x serial level quota e old new is why none = refused x (Event.Create serial level quota) e old.past is refl why none.reason
