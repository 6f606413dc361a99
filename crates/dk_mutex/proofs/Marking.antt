-- Which processes have a thread that may hold a mutex, whatever changes hands.
use Rattle.dk_mutex.proofs.Names.{arith, inl, inr, ◌≡◌, ◌≤◌, ◌∙◌, Bool, true, false, eqb, ℕ, zero, suc, List, [], ◌∷◌, length, map, set, slice_get, Option, Some, None, refl, ap, is_some, list_any, option_map_or, cases_Bool, or_parts, eq-eqb, nat_tests, slice_get_past, ThreadId, is_same, same-id, Holder, Lockable, freed, is_by, is_by_process, is_held, is_holder, spent, given_to, AreMarked, IsMarked}
use Rattle.dk_mutex.proofs.Fronts.{still-by}
use Rattle.dk_mutex.proofs.Lefts.{given-further}

abbrev mark-of : List Bool → ℕ → Bool
mark-of marks p = option_map_or (λ marked. marked) (slice_get marks p) true

mark-own : (marks : List Bool) (p : ℕ) (marked : Bool) → mark-of (set marks p marked) p ≡ false → marked ≡ false
mark-own [] p marked off = absurd (cc)
mark-own (m ∷ marks) zero marked off = off
mark-own (m ∷ marks) (suc p) marked off = mark-own marks p marked off

mark-other : (marks : List Bool) (p q : ℕ) (marked : Bool) → (q ≡ p → ⊥) → mark-of (set marks p marked) q ≡ mark-of marks q
mark-other [] p q marked apart = refl
mark-other (m ∷ marks) zero zero marked apart = absurd (apart refl)
mark-other (m ∷ marks) zero (suc q) marked apart = refl
mark-other (m ∷ marks) (suc p) zero marked apart = refl
mark-other (m ∷ marks) (suc p) (suc q) marked apart = mark-other marks p q marked (λ same. apart (ap suc same))

pub marked-row : (marks : List Bool) (process : ℕ) (marked : Bool) → IsMarked process marked marks (set marks process marked)
marked-row marks process marked = grind (arith, nat_tests, mark-own, mark-other)

-- a process past the end has no mark
pub unmarked-row : (marks : List Bool) (process : ℕ) (marked : Bool) → length marks ≤ process → IsMarked process marked marks marks
unmarked-row marks process marked past = grind (arith, nat_tests, slice_get_past)

-- a tick frees nobody
pub by-spent : (y x : ThreadId) (rows : List Lockable) → list_any (is_by y) (map (spent x) rows) ≡ list_any (is_by y) rows
by-spent y x [] = refl
by-spent y x (row ∷ rows) = grind (arith, nat_tests, still-by, by-spent y x rows)

pub marked-spent : (x : ThreadId) (marks : List Bool) (rows : List Lockable) → AreMarked marks rows → AreMarked marks (map (spent x) rows)
marked-spent x marks rows was = λ y off. by-spent y x rows ∙ was y off

-- who held nothing holds nothing once another gave up
by-freed : (y x : ThreadId) (rows : List Lockable) → list_any (is_by y) rows ≡ false → list_any (is_by y) (map (freed x) rows) ≡ false
by-freed y x [] off = refl
by-freed y x (row ∷ rows) off = grind (arith, nat_tests, or_parts, by-freed y x rows)

pub marked-freed : (x : ThreadId) (marks : List Bool) (rows : List Lockable) → AreMarked marks rows → AreMarked marks (map (freed x) rows)
marked-freed x marks rows was = λ y off. by-freed y x rows (was y off)

-- who holds nothing holds nothing once a mutex has another holder
by-given : (y : ThreadId) (holder : Option Holder) → is_holder y holder ≡ false → (m : ℕ) (rows : List Lockable)
    → list_any (is_by y) rows ≡ false → list_any (is_by y) (given_to holder m rows) ≡ false
by-given y holder apart m [] off = refl
by-given y holder apart zero (row ∷ rows) off = grind (arith, nat_tests, or_parts, given-further)
by-given y holder apart (suc m) (row ∷ rows) off = grind (arith, nat_tests, or_parts, given-further, by-given y holder apart m rows)

same-process : (y x : ThreadId) → (y.process ≡ x.process → ⊥) → is_same y x ≡ false
same-process y x apart = grind (arith, nat_tests, same-id)

pub marked-locked : (h : Holder) (m : ℕ) (rows : List Lockable) (marks after : List Bool) → IsMarked h.thread.process true marks after
    → AreMarked marks rows → AreMarked after (given_to (Some h) m rows)
marked-locked h m rows marks after is was = grind (arith, nat_tests, by-given, same-process)

-- who is of no process that holds anything holds nothing
by-process : (y : ThreadId) (p : ℕ) → y.process ≡ p → (rows : List Lockable) → list_any (is_by_process p) rows ≡ false → list_any (is_by y) rows ≡ false
by-process y p same [] off = refl
by-process y p same (row ∷ rows) off =
    let parts = or_parts (is_by_process p row) (list_any (is_by_process p) rows) off in
    rw (go row.holder parts.0) (by-process y p same rows parts.1)
  where
    go : (o : Option Holder) → option_map_or (λ (h : Holder). eqb h.thread.process p) o false ≡ false → is_holder y o ≡ false
    go None off = refl
    go (Some h) off = elim (cases_Bool (is_same y h.thread)) [
      | inr other ↦ other
      | inl is ↦ grind (arith, nat_tests, same-id, eq-eqb)
    ]

-- nor where nobody holds anything
pub unheld-process : (p : ℕ) (rows : List Lockable) → list_any is_held rows ≡ false → list_any (is_by_process p) rows ≡ false
unheld-process p [] none = refl
unheld-process p (row ∷ rows) none =
    let parts = or_parts (is_held row) (list_any is_held rows) none in
    rw (go row.holder parts.0) (unheld-process p rows parts.1)
  where
    go : (o : Option Holder) → is_some o ≡ false → option_map_or (λ (h : Holder). eqb h.thread.process p) o false ≡ false
    go None off = refl
    go (Some h) off = absurd (cc)

pub marked-unlocked : (p m : ℕ) (marked : Bool) (rows next : List Lockable) (marks after : List Bool) → IsMarked p marked marks after
    → next ≡ given_to None m rows → (marked ≡ false → list_any (is_by_process p) next ≡ false) → AreMarked marks rows → AreMarked after next
marked-unlocked p m marked rows next marks after is freed-now asked was = grind (arith, nat_tests, by-process, eq-eqb, by-given)
