-- What a thread has left of two mutexes differs, whatever is called.
use Rattle.dk_mutex.proofs.Names.{◌≡◌, ◌<◌, ◌≤◌, ◌+◌, ◌∙◌, ◌⊎◌, inl, inr, Bool, true, false, leb, ℕ, zero, suc, List, [], ◌∷◌, length, map, get_or, min, Option, Some, None, ap, sym, subst, refl, arith, position_from, option_map_or, cases_Bool, and_parts, leb-true, nat_tests, slice_get-get_or, Configuration, ThreadId, is_same, same-id, Holder, Lockable, row_of, is_within, is_holder_within, holder_left, left_of, spent, freed, joined, least, at_row, ceiling_at, left_at, LeftsDiffer, given_to, hold_left, hold_of, holds_within, innermost, lock_refusal}

-- rows that are changed so that the thread has left of each what it had, if anything
left-kept : (x : ThreadId) (f : Lockable → Lockable) → ((row : Lockable) (n : ℕ) → left_of x (f row) ≡ Some n → left_of x row ≡ Some n)
    → (rows : List Lockable) (m n : ℕ) → left_at x (map f rows) m ≡ Some n → left_at x rows m ≡ Some n
left-kept x f same [] m n e = e
left-kept x f same (row ∷ rows) zero n e = same row n e
left-kept x f same (row ∷ rows) (suc m) n e = left-kept x f same rows m n e

-- what is left of a mutex is above what no hold of the thread is within
left-above : (x : ThreadId) (most : ℕ) (rows : List Lockable) (m n : ℕ) → holds_within x most rows ≡ false
    → left_at x rows m ≡ Some n → most < n
left-above x most [] m n far e = absurd (cc)
left-above x most (row ∷ rows) zero n far e = grind (arith, nat_tests)
left-above x most (row ∷ rows) (suc m) n far e = grind (arith, nat_tests, left-above x most rows m)

-- a tick of the thread itself
spent-own : (id : ThreadId) (rows : List Lockable) (m n : ℕ) → holds_within id 0 rows ≡ false
    → left_at id (map (spent id) rows) m ≡ Some n → left_at id rows m ≡ Some (n + 1)
spent-own id [] m n far e = absurd (cc)
spent-own id (row ∷ rows) zero n far e = grind (arith, nat_tests)
spent-own id (row ∷ rows) (suc m) n far e = grind (arith, nat_tests, spent-own id rows m)

-- a tick of another thread
spent-other : (x id : ThreadId) → is_same x id ≡ false → (row : Lockable) (n : ℕ)
    → left_of x (spent id row) ≡ Some n → left_of x row ≡ Some n
spent-other x id apart row n e = grind (arith, nat_tests, same-id)

pub LeftsDiffer-spent : (id : ThreadId) (rows : List Lockable) → holds_within id 0 rows ≡ false
    → LeftsDiffer rows → LeftsDiffer (map (spent id) rows)
LeftsDiffer-spent id rows far before = λ x m k n one other.
    elim (cases_Bool (is_same x id)) [
      | inl same ↦
          let is : x ≡ id = same-id x id same in
          let own : (j : ℕ) → left_at x (map (spent id) rows) j ≡ Some n → left_at id rows j ≡ Some (n + 1) =
          λ j e. spent-own id rows j n far (subst (λ y. left_at y (map (spent id) rows) j ≡ Some n) is e) in
          before id m k (n + 1) (own m one) (own k other)
      | inr apart ↦
          before x m k n
          (left-kept x (spent id) (spent-other x id apart) rows m n one)
          (left-kept x (spent id) (spent-other x id apart) rows k n other)
    ]

freed-kept : (x id : ThreadId) (row : Lockable) (n : ℕ) → left_of x (freed id row) ≡ Some n → left_of x row ≡ Some n
freed-kept x id row n e = grind (arith, nat_tests)

pub LeftsDiffer-freed : (id : ThreadId) (rows : List Lockable) → LeftsDiffer rows → LeftsDiffer (map (freed id) rows)
LeftsDiffer-freed id rows before = λ x m k n one other.
    before x m k n
    (left-kept x (freed id) (freed-kept x id) rows m n one)
    (left-kept x (freed id) (freed-kept x id) rows k n other)

-- of rows that nobody holds
pub nothing-held : (c : Configuration) (x : ThreadId) (ms : List ℕ) (m : ℕ) → left_at x (map (row_of c) ms) m ≡ None
nothing-held c x [] m = refl
nothing-held c x (r ∷ ms) zero = refl
nothing-held c x (r ∷ ms) (suc m) = nothing-held c x ms m

pub LeftsDiffer-start : (c : Configuration) (ms : List ℕ) → LeftsDiffer (map (row_of c) ms)
LeftsDiffer-start c ms = λ x m k n one other. let none : None ≡ Some n = sym (nothing-held c x ms m) ∙ one in absurd (cc)

pub given-further : (holder : Option Holder) (m : ℕ) (row : Lockable) (rows : List Lockable)
    → given_to holder (suc m) (row ∷ rows) ≡ row ∷ given_to holder m rows
given-further holder m row rows = grind (arith, nat_tests)

-- what a thread has left of a mutex once one of them has another holder
left-given : (x : ThreadId) (holder : Option Holder) (rows : List Lockable) (m k n : ℕ)
    → left_at x (given_to holder m rows) k ≡ Some n → ((k ≡ m) × (holder_left x holder ≡ Some n)) ⊎ (left_at x rows k ≡ Some n)
left-given x holder [] m k n e = inr e
left-given x holder (row ∷ rows) zero zero n e = inl (refl, e)
left-given x holder (row ∷ rows) zero (suc k) n e = inr e
left-given x holder (row ∷ rows) (suc m) zero n e = grind (arith, nat_tests)
left-given x holder (row ∷ rows) (suc m) (suc k) n e = grind (arith, nat_tests, left-given x holder rows m k)

pub LeftsDiffer-unlocked : (m : ℕ) (rows : List Lockable) → LeftsDiffer rows → LeftsDiffer (given_to None m rows)
LeftsDiffer-unlocked m rows before = λ x j k n one other. before x j k n (kept x j n one) (kept x k n other)
  where
    kept : (x : ThreadId) (k n : ℕ) → left_at x (given_to None m rows) k ≡ Some n → left_at x rows k ≡ Some n
    kept x k n e =
        elim (left-given x None rows m k n e) [
          | inl new ↦ let none : None ≡ Some n = new.1 in absurd (cc)
          | inr old ↦ old
        ]

-- a new hold is shorter than what is left of each other hold of the thread
not-again : (x : ThreadId) (h : Holder) (rows : List Lockable) (k n : ℕ) → holds_within h.thread h.left rows ≡ false
    → holder_left x (Some h) ≡ Some n → left_at x rows k ≡ Some n → ⊥
not-again x h rows k n far new old =
    elim (cases_Bool (is_same x h.thread)) [
      | inl same ↦
          let mine : left_at h.thread rows k ≡ Some n = subst (λ y. left_at y rows k ≡ Some n) (same-id x h.thread same) old in
          let above : h.left < n = left-above h.thread h.left rows k n far mine in
          let left : Some h.left ≡ Some n = rw same at new in
          let number : h.left ≡ n = cc in
          omega arith
      | inr other ↦ let none : None ≡ Some n = rw other at new in absurd (cc)
    ]

pub LeftsDiffer-locked : (h : Holder) (m : ℕ) (rows : List Lockable) → holds_within h.thread h.left rows ≡ false
    → LeftsDiffer rows → LeftsDiffer (given_to (Some h) m rows)
LeftsDiffer-locked h m rows far before = λ x j k n one other.
    elim (left-given x (Some h) rows m j n one) [
      | inl new ↦ grind (arith, nat_tests, left-given, not-again)
      | inr old ↦
          elim (left-given x (Some h) rows m k n other) [
            | inl new ↦ absurd (not-again x h rows j n far new.1 old)
            | inr too ↦ before x j k n old too
          ]
    ]

pub hold-read : (rows : List Lockable) (m : ℕ) (d : Lockable) → m < length rows → (get_or rows m d).hold ≡ hold_of rows m
hold-read rows m d below = sym (ap (λ o. option_map_or (λ (row : Lockable). row.hold) o 0) (slice_get-get_or rows m d below))

pub ceiling-read : (rows : List Lockable) (m : ℕ) (d : Lockable) → m < length rows → (get_or rows m d).ceiling ≡ ceiling_at rows m
ceiling-read rows m d below = sym (ap (λ o. option_map_or (λ (row : Lockable). row.ceiling) o 0) (slice_get-get_or rows m d below))

-- a lock that is not refused
pub far-locked : (id : ThreadId) (m body_left : ℕ) (rows : List Lockable) → lock_refusal id m body_left rows ≡ None
    → holds_within id (hold_of rows m) rows ≡ false
far-locked id m body_left rows free = grind (arith, nat_tests)

-- there is a least, and it is not above any
pub least-some : (x : ThreadId) (rows : List Lockable) (m n : ℕ) → left_at x rows m ≡ Some n
    → (l : ℕ) × ((least (map (left_of x) rows) ≡ Some l) × (l ≤ n))
least-some x [] m n e = absurd (cc)
least-some x (row ∷ rows) zero n e = rw e (first (least (map (left_of x) rows)))
  where
    first : (o : Option ℕ) → (l : ℕ) × ((joined (Some n) o ≡ Some l) × (l ≤ n))
    first None = (n, (refl, omega arith))
    first (Some b) = (min n b, (refl, omega arith))
least-some x (row ∷ rows) (suc m) n e =
    let rest = least-some x rows m n e in
    further (left_of x row) (least (map (left_of x) rows)) rest.0 rest.1.0 rest.1.1
  where
    further : (o p : Option ℕ) (l : ℕ) → p ≡ Some l → l ≤ n → (k : ℕ) × ((joined o p ≡ Some k) × (k ≤ n))
    further None p l is below = (l, (is, below))
    further (Some a) p l is below = (min a l, (ap (joined (Some a)) is, omega (arith, below)))

pub least-below : (x : ThreadId) (rows : List Lockable) (m n : ℕ) → left_at x rows m ≡ Some n → hold_left x rows ≤ n
least-below x rows m n e = grind (arith, nat_tests, least-some)

-- the thread has as much left of a mutex that it holds within a number of ticks
within-left : (x : ThreadId) (most : ℕ) (rows : List Lockable) (k : ℕ) → at_row (is_within x most) rows k ≡ true
    → (n : ℕ) × ((left_at x rows k ≡ Some n) × (n ≤ most))
within-left x most [] k e = absurd (cc)
within-left x most (row ∷ rows) (suc k) e = within-left x most rows k e
within-left x most (row ∷ rows) zero e = at-holder row.holder e
  where
    at-holder : (o : Option Holder) → is_holder_within x most o ≡ true → (n : ℕ) × ((holder_left x o ≡ Some n) × (n ≤ most))
    at-holder None e = absurd (cc)
    at-holder (Some h) e =
        let parts = and_parts (is_same x h.thread) (leb h.left most) e in
        (h.left, (rw parts.0 refl, leb-true h.left most parts.1))

pub left-within : (x : ThreadId) (rows : List Lockable) (m n : ℕ) → left_at x rows m ≡ Some n → at_row (is_within x n) rows m ≡ true
left-within x [] m n e = absurd (cc)
left-within x (row ∷ rows) (suc m) n e = left-within x rows m n e
left-within x (row ∷ rows) zero n e = grind (arith, nat_tests)

-- the first row that passes a test is the only one that does
only-place : (test : Lockable → Bool) (rows : List Lockable) (i m : ℕ) → at_row test rows m ≡ true
    → ((k : ℕ) → at_row test rows k ≡ true → k ≡ m) → position_from test i rows ≡ Some (i + m)
only-place test [] i m e only = absurd (cc)
only-place test (row ∷ rows) i zero e only = rw e (ap Some (omega arith))
only-place test (row ∷ rows) i (suc m) e only =
    elim (cases_Bool (test row)) [
      | inl here ↦ let none : zero ≡ suc m = only zero here in absurd (omega arith)
      | inr further ↦
          let rest = only-place test rows (i + 1) m e (λ k passes. let next : suc k ≡ suc m = only (suc k) passes in omega arith) in
          rw further (rest ∙ ap Some (omega arith))
    ]

pub innermost-alone : (id : ThreadId) (rows : List Lockable) → LeftsDiffer rows → (m : ℕ)
    → left_at id rows m ≡ Some (hold_left id rows) → innermost id rows ≡ Some m
innermost-alone id rows apart m e =
    only-place (is_within id (hold_left id rows)) rows 0 m (left-within id rows m (hold_left id rows) e)
    (λ k passes.
    let within = within-left id (hold_left id rows) rows k passes in
    let above : hold_left id rows ≤ within.0 = least-below id rows k within.0 within.1.0 in
    let same : within.0 ≡ hold_left id rows = omega (arith, within.1.1) in
    apart id k m (hold_left id rows) (within.1.0 ∙ ap Some same) e)
    ∙ ap Some (omega arith)
