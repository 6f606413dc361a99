-- Whose event an entry has, and what a create has met.
use Rattle.dk_trace.proofs.Names.{ℕ, ◌≡◌, ◌+◌, ◌*◌, ◌/◌, ◌≤◌, inl, inr, Bool, true, false, ◌&&◌, ◌||◌, List, [], ◌∷◌, length, refl, ap, subst, arith, ◌<◌, eqb, sum_by, filter, not, Option, Some, None, MatchOption, option_map_or, cases_Bool, nat_tests, Configuration, period, window_end, main_level, max_level, budget, slots, ThreadId, Label, Event, Refusal, Entry, is_same, thread_of, is_of, quiet, is_end, is_delete_of, main_of, Thread, family, made_by, is_main, is_void, is_ended_by, new_rows, first_refusal, standing_children, create_refusal, row_of, done_refusal, HasNextSerial, ThreadFollows, Follows, Has, asked, held_after, Hold}
use Rattle.dk_trace.proofs.Mains.{main_id, main_row}
use Rattle.dk_trace.proofs.Families.{children, family-children}
use Rattle.dk_trace.proofs.Charged.{family-charged}
use Rattle.dk_trace.proofs.Whose.{of-thread}
use Rattle.dk_trace.proofs.Same.{same-self}

pub actor-follows : (c : Configuration) (past : List Entry) (e : Entry) (x : ThreadId) → Follows c past e → is_of x e ≡ true → ThreadFollows c past e x
actor-follows c past e x follows mine =
    let h : MatchOption (thread_of e.label) (Unit {0}) (ThreadFollows c past e) = follows.thread in
    subst (λ o. MatchOption o (Unit {0}) (ThreadFollows c past e)) (of-thread x e mine) h

pub main-row-of : (c : Configuration) (p : ℕ) (past : List Entry) → row_of c past (main_id p) ≡ Some (main_row c p past)
main-row-of c p past = grind (arith, nat_tests, main_id, family-children, main_row, children, same-self)

-- no reason of the list holds
abbrev pub NoneHolds : List (Bool × Refusal) → Type 0
NoneHolds [] = Unit {0}
NoneHolds (reason ∷ reasons) = (reason.0 ≡ false) × NoneHolds reasons

pub none-holds : (reasons : List (Bool × Refusal)) → first_refusal reasons ≡ None → NoneHolds reasons
none-holds [] h = tt
none-holds (reason ∷ reasons) h =
    elim (cases_Bool reason.0) [
      | inl holds ↦ let found : Some reason.1 ≡ None = rw holds at h in absurd (cc)
      | inr fails ↦ let later : first_refusal reasons ≡ None = rw fails at h in (fails, none-holds reasons later)
    ]

abbrev pub quotas : List Thread → ℕ
quotas ys = sum_by (λ y. y.quota) ys

abbrev pub share_of : Configuration → ℕ → ℕ → ℕ → ℕ
share_of c p level quota = (quota * period c level) / period c (main_level c p)

abbrev pub least : Configuration → ℕ
least c = 2 * c.costs.switch + 1

abbrev pub is_standing : Configuration → ℕ → Thread → Bool
is_standing c n y = not (is_main y) && not (is_void y) && not (is_ended_by c n y)

abbrev pub standing : Configuration → ℕ → List Thread → List Thread
standing c n ys = filter (is_standing c n) ys

-- what a create that is done has met
pub record IsMet (c : Configuration) (p : ℕ) (past : List Entry) (serial level quota : ℕ) : Type 0 where
  pub next : serial ≡ length (family c p past)
  pub above : main_level c p ≤ level
  pub known : level ≤ max_level c p
  pub some : 0 < slots c p
  pub enough : least c ≤ share_of c p level quota
  pub fits : quotas (standing_children c (length past) past p) + quota + least c ≤ budget c p

pub met-of : (c : Configuration) (p : ℕ) (label : Label) (past : List Entry) (serial level quota : ℕ)
    → serial ≡ length (family c p past)
    → create_refusal c (length past) (quiet label ∷ past) (main_row c p past) level quota 0 1 ≡ None
    → IsMet c p past serial level quota
met-of c p label past serial level quota next h = grind (arith, nat_tests, children, none-holds, main_row, family-charged)

-- a row that an entry makes
pub record IsNew (c : Configuration) (p : ℕ) (past : List Entry) (y : Thread) : Type 0 where
  pub met : IsMet c p past y.id.serial y.level y.quota
  pub process : y.id.process ≡ p
  pub start : y.start ≡ window_end c y.level (length past)
  pub running : y.stop ≡ None

pub created : (c : Configuration) (p : ℕ) (e : Entry) (past : List Entry) (serial level quota : ℕ)
    → e.event ≡ Some (Event.Create serial level quota) → Follows c past e → is_of (main_id p) e ≡ true
    → IsMet c p past serial level quota
created c p e past serial level quota is follows mine =
    let n = length past in
    let x = main_id p in
    let acts = actor-follows c past e x follows mine in
    let at = subst (λ o. MatchOption o (Unit {0}) (λ event. HasNextSerial c past x event
    × MatchOption (row_of c past x) ⊥ (λ row. done_refusal c n (quiet e.label ∷ past) row event ≡ None))) is acts.met in
    let free : create_refusal c n (quiet e.label ∷ past) (main_row c p past) level quota 0 1 ≡ None =
    subst (λ o. MatchOption o ⊥ (λ row. create_refusal c n (quiet e.label ∷ past) row level quota 0 1 ≡ None)) (main-row-of c p past) at.1 in
    met-of c p e.label past serial level quota at.0 free

made-new : (c : Configuration) (p : ℕ) (past : List Entry) (event : Option Event) (y : Thread)
    → ((serial level quota : ℕ) → event ≡ Some (Event.Create serial level quota) → IsMet c p past serial level quota)
    → Has (made_by c p (length past) event) y → IsNew c p past y
made-new c p past (Some (Event.Create serial level quota)) y met (inl here) =
    let m = met serial level quota refl in
    subst (IsNew c p past) here (record { met = m; process = refl; start = refl; running = refl })
made-new c p past (Some (Event.Create serial level quota)) y met (inr h) = absurd h
made-new c p past None y met h = absurd h
made-new c p past (Some event) y met h = absurd h

pub new-row : (c : Configuration) (p : ℕ) (e : Entry) (past : List Entry) (y : Thread) → Follows c past e
    → Has (new_rows c p e past) y → IsNew c p past y
new-row c p e past y follows h =
    elim (cases_Bool (is_of (main_id p) e)) [
      | inl mine ↦
          let h' : Has (made_by c p (length past) e.event) y = rw mine at h in
          made-new c p past e.event y (λ s l q is. created c p e past s l q is follows mine) h'
      | inr other ↦ let h' : ⊥ = rw other at h in absurd h'
    ]

-- where neither of two reasons holds
pub none-of-two : (a b : Bool) (r s : Refusal) → first_refusal ((a, r) ∷ (b, s) ∷ []) ≡ None → (a ≡ false) × (b ≡ false)
none-of-two a b r s h = grind (arith, nat_tests)

pub none-of-three : (a b g : Bool) (r s t : Refusal) → first_refusal ((a, r) ∷ (b, s) ∷ (g, t) ∷ []) ≡ None → (a ≡ false) × (b ≡ false) × (g ≡ false)
none-of-three a b g r s t h = grind (arith, nat_tests)

pub none-of-one : (b : Bool) (r : Refusal) → first_refusal ((b, r) ∷ []) ≡ None → b ≡ false
none-of-one b r h = grind (arith, nat_tests)

-- a create that isn't refused is within the levels, and a slot is left
pub levels-slots : (a l h i s t b : Bool)
    → first_refusal ((a, Refusal.NotMain) ∷ (l || h, Refusal.Level) ∷ (i, Refusal.Entry) ∷ (s, Refusal.Slots) ∷ (t, Refusal.TooSmall) ∷ (b, Refusal.Budget) ∷ []) ≡ None
    → (h ≡ false) × (s ≡ false)
levels-slots a l h i s t b none = grind (arith, nat_tests)

-- an event that makes nobody, asks for nothing and leaves holds
pub record IsPlain (event : Option Event) : Type 0 where
  pub makes : (c : Configuration) (p tick : ℕ) → made_by c p tick event ≡ []
  pub asks : asked event ≡ None
  pub keeps : (held : List Hold) → held_after event held ≡ held

pub end-plain : (event : Option Event) → option_map_or is_end event false ≡ true → IsPlain event
end-plain event h = grind (arith, nat_tests)

pub end-no-delete : (serial : ℕ) (event : Option Event) → option_map_or is_end event false ≡ true → option_map_or (is_delete_of serial) event false ≡ false
end-no-delete serial event h = grind (arith, nat_tests)

-- whose tick it is
pub whose : (y x : ThreadId) (e : Entry) → is_of x e ≡ true → is_of y e ≡ is_same y x
whose y x e mine = ap (λ o. option_map_or (is_same y) o false) (of-thread x e mine)

pub not-main-of : (y x : ThreadId) → eqb x.serial 0 ≡ false → is_same (main_of y) x ≡ false
not-main-of y x child = grind (arith, nat_tests)

pub some-event : (o : Option Event) → option_map_or is_end o false ≡ true → (event : Event) × (o ≡ Some event)
some-event None h = absurd (cc)
some-event (Some event) h = (event, refl)
