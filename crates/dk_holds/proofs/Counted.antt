-- Who holds a mutex holds it as dk_trace counts a thread's holds.
use Rattle.std.proofs.Common.{ℕ, ◌≡◌, ◌∙◌, ◌+◌, ◌++◌, [], ◌∷◌, List, length, map, sym, ap, refl, subst}
use Rattle.std.specs.Prelude.{Bool, true, false, not, ◌&&◌, ◌||◌, ◌==◌, Option, Some, None, if◌then◌else◌, option_map}
use Rattle.std.specs.List.{list_any}
use Rattle.std.specs.Option.{option_map_or}
use Rattle.std.proofs.lemmas.Bool.{eqb-true, or_parts}
use Rattle.dk_trace.specs.declared.ThreadId.{ThreadId}
use Rattle.dk_trace.specs.declared.Label.{Label}
use Rattle.dk_trace.specs.declared.Event.{Event}
use Rattle.dk_trace.specs.declared.Entry.{Entry}
use Rattle.dk_trace.specs.Entries.{does, has_event, is_of, is_same, stops, thread_of}
use Rattle.dk_trace.specs.Holds.{Hold, aged, given_back, held_after, held_by, is_held}
use Rattle.dk_trace.proofs.Holds.{aged-held, held-mine, held-other}
use Rattle.dk_trace.proofs.Same.{same-self}
use Rattle.dk_holds.specs.declared.holding.Holding.{Holding}
use Rattle.dk_holds.specs.Holds.{begun, ends, holding, is_lock_of, is_unlock_of}
use Rattle.dk_holds.proofs.Stepping.{and_false}
use Rattle.dk_holds.proofs.Telling.{held, no_lock}

one_other : (m k : ℕ) (h : Hold) (holds : List Hold) → (k == m) ≡ false → is_held m (given_back k holds) ≡ is_held m holds
    → is_held m (given_back k (h ∷ holds)) ≡ is_held m (h ∷ holds)
one_other m k h holds other rest = go (h.mutex == k) refl
  where
    go : (b : Bool) → (h.mutex == k) ≡ b → is_held m (given_back k (h ∷ holds)) ≡ is_held m (h ∷ holds)
    go true same =
        let own : (h.mutex == m) ≡ false = ap (λ i. i == m) (eqb-true h.mutex k same) ∙ other in
        ap (λ b. is_held m (if not b then (h ∷ given_back k holds) else given_back k holds)) same ∙ rest ∙ sym (ap (λ b. b || is_held m holds) own)
    go false apart = ap (λ b. is_held m (if not b then (h ∷ given_back k holds) else given_back k holds)) apart ∙ ap (λ b. (h.mutex == m) || b) rest

-- the other mutexes stay held
back_other : (m k : ℕ) (holds : List Hold) → (k == m) ≡ false → is_held m (given_back k holds) ≡ is_held m holds
back_other m k [] other = refl
back_other m k (h ∷ holds) other = one_other m k h holds other (back_other m k holds other)

after_other : (m : ℕ) (event : Option Event) (holds : List Hold) → is_held m holds ≡ true
    → ((k : ℕ) → event ≡ Some (Event.Lock k) → (k == m) ≡ false) → ((k : ℕ) → event ≡ Some (Event.Unlock k) → (k == m) ≡ false)
    → is_held m (held_after event holds) ≡ true
after_other m None holds is locks unlocks = is
after_other m (Some (Event.Lock k)) holds is locks unlocks =
    let other = locks k refl in
    ap (λ b. b || is_held m (given_back k holds)) other ∙ back_other m k holds other ∙ is
after_other m (Some (Event.Unlock k)) holds is locks unlocks = back_other m k holds (unlocks k refl) ∙ is
after_other m (Some event) holds is locks unlocks = is

-- a thread that goes on holding the mutex
keeps : (m : ℕ) (x : ThreadId) (e : Entry) (past : List Entry) → ends m x e ≡ false → is_held m (held_by x past) ≡ true → is_held m (held_by x (e ∷ past)) ≡ true
keeps m x e past on is = go (is_of x e) refl
  where
    rest : (stops x e || has_event (is_lock_of m) e) ≡ false
    rest = (or_parts (does (is_unlock_of m) x e) _ on).1

    runs : stops x e ≡ false
    runs = (or_parts (stops x e) (has_event (is_lock_of m) e) rest).0

    no_lock : has_event (is_lock_of m) e ≡ false
    no_lock = (or_parts (stops x e) (has_event (is_lock_of m) e) rest).1

    go : (b : Bool) → is_of x e ≡ b → is_held m (held_by x (e ∷ past)) ≡ true
    go false other = ap (is_held m) (held-other x e past runs other) ∙ is
    go true mine =
        let no_unlock : has_event (is_unlock_of m) e ≡ false = sym (ap (λ b. b && has_event (is_unlock_of m) e) mine) ∙ (or_parts (does (is_unlock_of m) x e) _ on).0 in
        ap (is_held m) (held-mine x e past runs mine)
        ∙ after_other m e.event (map aged (held_by x past)) (aged-held m (held_by x past) ∙ is)
        (λ k event. sym (ap (λ o. has_event (is_lock_of m) (record { label = e.label; event = o })) event) ∙ no_lock)
        (λ k event. sym (ap (λ o. has_event (is_unlock_of m) (record { label = e.label; event = o })) event) ∙ no_unlock)

lock_event : (m : ℕ) (event : Option Event) → option_map_or (is_lock_of m) event false ≡ true → (k : ℕ) × (event ≡ Some (Event.Lock k)) × ((k == m) ≡ true)
lock_event m (Some (Event.Lock k)) is = (k, refl, is)
lock_event m event is = absurd (cc)

lock_stops_none : (x : ThreadId) (label : Label) (k : ℕ) → stops x (record { label = label; event = Some (Event.Lock k) }) ≡ false
lock_stops_none x label k = simp and_false refl

-- the thread that locks the mutex
locked : (m : ℕ) (x : ThreadId) (e : Entry) (past : List Entry) → has_event (is_lock_of m) e ≡ true → thread_of e.label ≡ Some x → is_held m (held_by x (e ∷ past)) ≡ true
locked m x e past locks mine =
    let lock = lock_event m e.event locks in
    let runs : stops x e ≡ false = ap (λ event. stops x (record { label = e.label; event = event })) lock.1 ∙ lock_stops_none x e.label lock.0 in
    let own : is_of x e ≡ true = ap (λ o. option_map_or (is_same x) o false) mine ∙ same-self x in
    ap (is_held m) (held-mine x e past runs own) ∙ ap (λ event. is_held m (held_after event (map aged (held_by x past)))) lock.1
    ∙ ap (λ b. b || is_held m (given_back lock.0 (map aged (held_by x past)))) lock.2

abbrev holding_at : ℕ → ThreadId → Holding
holding_at n x = record { thread = x; since = n + 1 }

begins_held : (m n : ℕ) (e : Entry) (past : List Entry) (h : Holding) → begun m n e ≡ Some h → is_held m (held_by h.thread (e ∷ past)) ≡ true
begins_held m n e past h begins = go (has_event (is_lock_of m) e) refl (thread_of e.label) refl
  where
    go : (b : Bool) → has_event (is_lock_of m) e ≡ b → (o : Option ThreadId) → thread_of e.label ≡ o → is_held m (held_by h.thread (e ∷ past)) ≡ true
    go false locks o mine = absurd (let none = sym (no_lock m n e locks) ∙ begins in cc)
    go true locks None mine =
        absurd (let none = sym (ap (λ b. if b then option_map (holding_at n) (thread_of e.label) else None) locks ∙ ap (option_map (holding_at n)) mine) ∙ begins in cc)
    go true locks (Some x) mine =
        let is : Some (holding_at n x) ≡ Some h = sym (ap (λ b. if b then option_map (holding_at n) (thread_of e.label) else None) locks ∙ ap (option_map (holding_at n)) mine) ∙ begins in
        let same : holding_at n x ≡ h = cc in
        subst (λ (k : Holding). is_held m (held_by k.thread (e ∷ past)) ≡ true) same (locked m x e past locks mine)

held_since : (m : ℕ) (h : Holding) (later earlier : List Entry) (lock : Entry) → begun m (length earlier) lock ≡ Some h → list_any (ends m h.thread) later ≡ false
    → is_held m (held_by h.thread (later ++ lock ∷ earlier)) ≡ true
held_since m h [] earlier lock begins on = begins_held m (length earlier) lock earlier h begins
held_since m h (e ∷ later) earlier lock begins on =
    let parts = or_parts (ends m h.thread e) (list_any (ends m h.thread) later) on in
    keeps m h.thread e (later ++ lock ∷ earlier) parts.0
    (held_since m h later earlier lock begins parts.1)

pub in_trace : (m : ℕ) (past : List Entry) (h : Holding) → holding m past ≡ Some h → is_held m (held_by h.thread past) ≡ true
in_trace m past h is =
    let k = held m past h is in
    ap (λ es. is_held m (held_by h.thread es)) k.parts ∙ held_since m h k.later k.earlier k.lock k.begins k.goes_on
