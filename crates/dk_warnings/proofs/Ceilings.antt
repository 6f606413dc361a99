-- A ceiling that is faster than all users can be at the level of the fastest.
use Rattle.dk_warnings.proofs.Names.{ℕ, zero, suc, ◌≡◌, ◌<◌, ◌≤◌, ◌⊎◌, inl, inr, Bool, true, false, cond, ltb, List, [], ◌∷◌, length, max, refl, ap, ◌∙◌, arith, Option, Some, None, map, filter, slice_get, option_map, option_map_or, nat_tests, Configuration, Mutex, ProcessRow, greatest, IsAccepted, IsChecked, ceiling, longest_hold, main_level, can_block, is_user, uses, fastest_of, fastest_user}
use Rattle.std.proofs.Common.{◌&&◌}
use Rattle.dk_warnings.specs.Ceilings.{CertifiesToo, rows_with_ceiling, with_ceiling}

fastest-least : (mutex : Mutex) (none : ℕ) (rows : List ProcessRow) (p : ℕ) (row : ProcessRow) → slice_get rows p ≡ Some row → uses mutex row ≡ true
    → fastest_of mutex none rows ≤ row.level
fastest-least mutex none [] p row there user = absurd (cc)
fastest-least mutex none (first ∷ rows) zero row there user = grind (arith, nat_tests)
fastest-least mutex none (first ∷ rows) (suc p) row there user = grind (arith, nat_tests, fastest-least mutex none rows p)

user-level : (mutex : Mutex) (none : ℕ) (rows : List ProcessRow) (p : ℕ) → option_map_or (uses mutex) (slice_get rows p) false ≡ true
    → fastest_of mutex none rows ≤ option_map_or (λ row. row.level) (slice_get rows p) 0
user-level mutex none rows p user = at (slice_get rows p) refl user
  where
    at : (o : Option ProcessRow) → slice_get rows p ≡ o → option_map_or (uses mutex) o false ≡ true → fastest_of mutex none rows ≤ option_map_or (λ row. row.level) o 0
    at None there h = absurd (cc)
    at (Some row) there h = fastest-least mutex none rows p row there h

-- no user is faster
users-of : (c : Configuration) (p : ℕ) (o : Option Mutex) → option_map_or (λ mutex. option_map_or (uses mutex) (slice_get c.processes p) false) o false ≡ true
    → option_map_or (λ mutex. fastest_of mutex (length c.levels) c.processes) o 0 ≤ main_level c p
users-of c p o user = grind (arith, nat_tests, user-level)

-- and no slower level is as fast as each
fastest-greatest : (mutex : Mutex) (none l : ℕ) (rows : List ProcessRow) → l ≤ none
    → ((p : ℕ) (row : ProcessRow) → slice_get rows p ≡ Some row → uses mutex row ≡ true → l ≤ row.level) → l ≤ fastest_of mutex none rows
fastest-greatest mutex none l [] some every = some
fastest-greatest mutex none l (first ∷ rows) some every =
    let later = fastest-greatest mutex none l rows some (λ p. every (suc p)) in
    let own = every 0 first refl in
    grind (arith, nat_tests)

slowest-of : (c : Configuration) (l : ℕ) (o : Option Mutex) → l ≤ length c.levels
    → ((p : ℕ) → option_map_or (λ mutex. option_map_or (uses mutex) (slice_get c.processes p) false) o false ≡ true → l ≤ main_level c p)
    → 0 < option_map_or (λ mutex. fastest_of mutex (length c.levels) c.processes) o 0
    → l ≤ option_map_or (λ mutex. fastest_of mutex (length c.levels) c.processes) o 0
slowest-of c l None few every some = absurd (omega arith)
slowest-of c l (Some mutex) few every some =
    fastest-greatest mutex (length c.levels) l c.processes few (λ p row there user.
    let le = every p (ap (λ o. option_map_or (uses mutex) o false) there ∙ user) in
    let level = ap (λ o. option_map_or (λ row. row.level) o 0) there in
    omega (arith, le, level))

-- the greatest hold of the rows that a test passes
abbrev longest : (Mutex → Bool) → List Mutex → ℕ
longest test rows = greatest (map (λ mutex. mutex.hold) (filter test rows))

longest-cons : (test : Mutex → Bool) (row : Mutex) (rows : List Mutex) → longest test (row ∷ rows) ≡ max (cond (test row) row.hold 0) (longest test rows)
longest-cons test row rows = grind (arith, nat_tests)

narrower : (a b s : Bool) (h : ℕ) → (a ≡ true → b ≡ true) → cond (a && s) h 0 ≤ cond (b && s) h 0
narrower a b s h up = grind (arith, nat_tests)

shorter : (c : Configuration) (j : ℕ) (rows : List Mutex) (m level : ℕ) → option_map_or (λ row. row.ceiling) (slice_get rows m) 0 ≤ level
    → longest (can_block c j) (rows_with_ceiling rows m level) ≤ longest (can_block c j) rows
shorter c j [] m level le = omega arith
shorter c j (row ∷ rows) zero level le = grind (arith, nat_tests, longest-cons, narrower)
shorter c j (row ∷ rows) (suc m) level le = grind (arith, nat_tests, longest-cons, narrower, shorter c j rows m)

abbrev at_level : ℕ → Mutex → Mutex
at_level level row = record row { ceiling = level }

-- the row at each place
at-place : (rows : List Mutex) (m level k : ℕ) → (slice_get (rows_with_ceiling rows m level) k ≡ slice_get rows k)
    ⊎ ((k ≡ m) × (slice_get (rows_with_ceiling rows m level) k ≡ option_map (at_level level) (slice_get rows k)))
at-place [] m level k = inl refl
at-place (row ∷ rows) zero level zero = inr (refl, refl)
at-place (row ∷ rows) zero level (suc k) = inl refl
at-place (row ∷ rows) (suc m) level zero = inl refl
at-place (row ∷ rows) (suc m) level (suc k) = grind (arith, nat_tests, at-place rows m level k)

abbrev used_by : List ProcessRow → ℕ → Option Mutex → Bool
used_by rows p o = option_map_or (λ mutex. option_map_or (uses mutex) (slice_get rows p) false) o false

same-users : (rows : List ProcessRow) (p level : ℕ) (o : Option Mutex) → used_by rows p (option_map (at_level level) o) ≡ used_by rows p o
same-users rows p level o = grind (arith, nat_tests)

same-hold : (level : ℕ) (o : Option Mutex) → option_map_or (λ row. row.hold) (option_map (at_level level) o) 0 ≡ option_map_or (λ row. row.hold) o 0
same-hold level o = grind (arith, nat_tests)

new-ceiling : (level : ℕ) (o : Option Mutex) → option_map_or (λ row. row.ceiling) (option_map (at_level level) o) 0 ≤ level
new-ceiling level o = grind (arith, nat_tests)

module _ (c : Configuration) (m level : ℕ) where
  abbrev changed : Configuration
  changed = with_ceiling c m level

  user-stays : (k p : ℕ) → is_user changed k p ≡ is_user c k p
  user-stays k p = grind (arith, nat_tests, at-place, same-users)

  hold-stays : (k : ℕ) → longest_hold changed k ≡ longest_hold c k
  hold-stays k = grind (arith, nat_tests, at-place, same-hold)

  ceiling-at : (k : ℕ) → (ceiling changed k ≡ ceiling c k) ⊎ ((k ≡ m) × (ceiling changed k ≤ level))
  ceiling-at k = grind (arith, nat_tests, at-place, new-ceiling)

  ceiling-fits : IsChecked c → ((p : ℕ) → is_user c m p ≡ true → level ≤ main_level c p) → (k p : ℕ) → is_user changed k p ≡ true → ceiling changed k ≤ main_level c p
  ceiling-fits checked users k p user = grind (arith, nat_tests, user-stays, ceiling-at)

  checked-too : IsChecked c → ((p : ℕ) → is_user c m p ≡ true → level ≤ main_level c p) → IsChecked changed
  checked-too checked users = grind (arith, nat_tests, ceiling-fits, hold-stays, user-stays)

  pub certifies-too : IsChecked c → IsAccepted c → ltb (ceiling c m) (fastest_user c m) ≡ true → fastest_user c m ≡ level → CertifiesToo c m level
  certifies-too checked accepted fast is = grind (arith, nat_tests, users-of, slowest-of, shorter, checked-too)
