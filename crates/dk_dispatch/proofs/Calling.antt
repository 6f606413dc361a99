-- From a call by the tables, and its law, to what it does to where the run stands.
use Rattle.dk_dispatch.proofs.Names.{ℕ, ◌≡◌, ◌∙◌, inr, refl, ap, sym, subst, ◌∷◌, length, Option, Some, None, Err, MatchResult, Ok, Result, ThreadId, Event, Refusal, quiet, HasFamilies, IsSound, Tables, CallIsRight, IsCalling, State, ThreadRow, Creates, IsNewRow, Past, call_label, with_event, Dispatched, Stands, StandsAt, dispatched, IsAnswered, IsCreated, IsDone, IsInCall, IsNotCreated, IsRefused, Makes, call_refusal, no_child}
use Rattle.dk_dispatch.proofs.Counting.{kernel-length}

-- rows are the same where all their fields are
row-of : (p p' n n' level level' slot slot' : ℕ) (state state' : State) (start start' : ℕ) (end end' : Option ℕ)
    → p ≡ p' → n ≡ n' → level ≡ level' → slot ≡ slot' → state ≡ state' → start ≡ start' → end ≡ end'
    → ◌≡◌ {A = ThreadRow} (record { id = record { process = p; serial = n }; level = level; slot = slot; state = state; start = start; end = end })
    (record { id = record { process = p'; serial = n' }; level = level'; slot = slot'; state = state'; start = start'; end = end' })
row-of p p' n n' level level' slot slot' state state' start start' end end' a b c d e f g = rw (a, b, c, d, e, f, g) refl

-- the thread calls over the past p, of which the tables d are the recount; v is what contracts see of both
module _ (x : ThreadId) (p : Past) (d : Tables) (v : Dispatched) (is : dispatched p d ≡ v)
    (call : IsInCall x v.past) (stands : Stands p d) where
  calls : IsInCall x p
  calls = subst (λ (w : Dispatched). IsInCall x w.past) (sym is) call

  pub calling : IsCalling x p.config (call_label p) p.entries d
  calling = record {
    charged = subst (λ tick. StandsAt tick p.config p.entries d) calls.charged stands (call_label p) (inr refl);
    caller = calls.caller;
    call = calls.call;
  }

  -- the tables have a part of the kernel for each level of the configuration
  pub levels : length d.kernel ≡ length v.past.config.levels
  levels =
      kernel-length p.config (length p.entries) (quiet (call_label p) ∷ p.entries) d calling.charged.recount
      ∙ ap (λ (w : Dispatched). length w.past.config.levels) is

  -- nothing is against the event: it is booked, where its entry follows the rules
  pub is-done : (event : Event) (p' : Past) (d' : Tables) → call_refusal p x event ≡ None → p' ≡ with_event event p → IsDone x event v (dispatched p' d')
  is-done event p' d' met next = subst (λ (w : Dispatched). IsDone x event w (dispatched p' d')) is (record { met = met; past = next })

  pub is-refused : (event : Event) (d' : Tables) (why : Refusal) → call_refusal p x event ≡ Some why → d' ≡ d → IsRefused x event v (dispatched p d') why
  is-refused event d' why reason same =
      subst (λ (w : Dispatched). IsRefused x event w (dispatched p d') why) is (record { reason = reason; same = ap (λ (t : Tables). dispatched p t) same })

  -- a call by the tables, which is done and noted, or refused
  module _ (event : Event) (refusal : Option Refusal) (made : Tables) where
    pub stands-by : {T : Type 0} → (refusal ≡ None → Stands (with_event event p) made) → (answer : Result T Refusal) (d' : Tables) (p' : Past)
        → MatchResult answer (λ _. p' ≡ with_event event p) (λ _. p' ≡ p) → Makes answer refusal d made d' → Stands p' d'
    stands-by books (Ok y) d' p' next told = subst (λ (q : Past). Stands q d') (sym next) (subst (Stands (with_event event p)) (sym told.1) (books told.0))
    stands-by books (Err why) d' p' next told = subst (λ (q : Past). Stands q d') (sym next) (subst (Stands p) (sym told.1) stands)

    pub answered-by : {T : Type 0} → refusal ≡ call_refusal p x event → (answer : Result T Refusal) {result : Result T Refusal} (d' : Tables) (p' : Past)
        → result ≡ answer → MatchResult answer (λ _. p' ≡ with_event event p) (λ _. p' ≡ p) → Makes answer refusal d made d'
        → IsAnswered result x event v (dispatched p' d')
    answered-by refuses (Ok y) d' p' same next told =
        subst (λ r. IsAnswered r x event v (dispatched p' d')) (sym same) (is-done event p' d' (sym refuses ∙ told.0) next)
    answered-by refuses (Err why) d' p' same next told =
        subst (λ r. IsAnswered r x event v (dispatched p' d')) (sym same)
        (subst (λ (q : Past). IsRefused x event v (dispatched q d') why) (sym next) (is-refused event d' why (sym refuses ∙ told.0) told.1))

  -- by its law, which is told at any past and tables
  module _ {event : Event} {refusal : Option Refusal} {May : Type 0} {made : Tables}
      (law : IsCalling x p.config (call_label p) p.entries d → IsSound d → HasFamilies d → CallIsRight x event refusal May made p.config (call_label p) p.entries d)
      (sound : IsSound d) (families : HasFamilies d) where
    pub right : CallIsRight x event refusal May made p.config (call_label p) p.entries d
    right = law calling sound families

    pub stands-after : {T : Type 0} (answer : Result T Refusal) (d' : Tables) (p' : Past) → MatchResult answer (λ _. p' ≡ with_event event p) (λ _. p' ≡ p)
        → Makes answer refusal d made d' → Stands p' d'
    stands-after = stands-by event refusal made (λ none follows. right.done none)

    pub answered : {T : Type 0} (answer : Result T Refusal) {result : Result T Refusal} (d' : Tables) (p' : Past) → result ≡ answer
        → MatchResult answer (λ _. p' ≡ with_event event p) (λ _. p' ≡ p) → Makes answer refusal d made d' → IsAnswered result x event v (dispatched p' d')
    answered = answered-by event refusal made right.refuses

  -- a create
  module _ (level quota entry instructions : ℕ) (d' : Tables) (row : ThreadRow)
      (made : Creates x level quota entry instructions d d' row p.config (call_label p) p.entries) where
    pub is-created : (p' : Past) → p' ≡ with_event (Event.Create row.id.serial level quota) p → IsNewRow x level d d' row
        → IsCreated x level quota entry instructions v (dispatched p' d') row
    is-created p' next fresh =
        subst (λ (w : Dispatched). IsCreated x level quota entry instructions w (dispatched p' d') row) is
        (record {
          child = row-of _ _ _ _ _ _ _ _ _ _ _ _ _ _ fresh.process made.serial fresh.runs_at fresh.lowest fresh.waits made.start fresh.endless;
          fits = fresh.fits;
          added = fresh.added;
          own = fresh.own;
          met = made.met;
          past = next;
        })

    pub stands-created : (p' : Past) → p' ≡ with_event (Event.Create row.id.serial level quota) p → Stands p' d'
    stands-created p' next = subst (λ (q : Past). Stands q d') (sym next) made.booked

  pub is-not-created : (level quota entry instructions : ℕ) (d' : Tables) (why : Refusal) → no_child p x level quota entry instructions ≡ Some why → d' ≡ d
      → IsNotCreated x level quota entry instructions v (dispatched p d') why
  is-not-created level quota entry instructions d' why reason same =
      subst (λ (w : Dispatched). IsNotCreated x level quota entry instructions w (dispatched p d') why) is
      (record { reason = reason; same = ap (λ (t : Tables). dispatched p t) same })
