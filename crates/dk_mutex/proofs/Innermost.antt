-- What a thread holds, by the table and by the past: which mutex it locked last, and for how long it may hold it.
use Rattle.dk_mutex.proofs.Names.{◌≡◌, ◌≤◌, ◌+◌, ◌∙◌, inl, inr, ◌&&◌, Bool, true, false, eqb, leb, ℕ, zero, suc, List, [], ◌∷◌, map, Option, Some, None, refl, ap, sym, arith, is_none, is_some, list_any, position_from, option_map_or, cases_Bool, cases_lt, eq-eqb, nat_tests, Configuration, ThreadId, Entry, Has, Hold, held_by, past_left, innermost_left, is_holding, is_past_innermost, Holder, Lockable, is_by, is_within, left_of, least, joined, left_at, hold_left, innermost, holds_within, is_free, is_held_by, is_innermost, IsRecount, LastIsLeast, hold_at, last_locked, same-self}
use Rattle.std.proofs.Common.{option_map}
use Rattle.std.specs.Prelude.{slice_get, min}
use Rattle.dk_trace.specs.Holds.{is_held}
use Rattle.dk_mutex.proofs.Holding.{left-free}

-- Where a mutex is found.

found-hold : (m : ℕ) (held : List Hold) (h : Hold) → hold_at m held ≡ Some h → Has held h
found-hold m [] h is = absurd (cc)
found-hold m (k ∷ held) h is = grind (arith, nat_tests, found-hold m held)

pub held-found : (m : ℕ) (held : List Hold) → is_held m held ≡ is_some (hold_at m held)
held-found m [] = refl
held-found m (k ∷ held) = grind (arith, nat_tests, held-found m held)

-- what a row has of the thread
by-left : (x : ThreadId) (row : Lockable) → is_by x row ≡ is_some (left_of x row)
by-left x row = grind (arith, nat_tests)

within-left : (x : ThreadId) (n : ℕ) (row : Lockable) → is_within x n row ≡ option_map_or (λ l. leb l n) (left_of x row) false
within-left x n row = grind (arith, nat_tests)

of-left : {B : Type 0} (x : ThreadId) (test : Lockable → B) (f : Option ℕ → B) (o : Option Lockable) → ((row : Lockable) → test row ≡ f (left_of x row))
    → option_map_or test o (f None) ≡ f (option_map_or (left_of x) o None)
of-left x test f is same = grind (arith, nat_tests)

-- the least that is left
least-none : (x : ThreadId) (rows : List Lockable) → ((m : ℕ) → left_at x rows m ≡ None) → least (map (left_of x) rows) ≡ None
least-none x [] none = refl
least-none x (row ∷ rows) none =
    let here : left_of x row ≡ None = none zero in
    ap (λ o. joined o (least (map (left_of x) rows))) here ∙ least-none x rows (λ m. none (suc m))

least-at : (x : ThreadId) (rows : List Lockable) (n : ℕ) → least (map (left_of x) rows) ≡ Some n → (k : ℕ) × (left_at x rows k ≡ Some n)
least-at x [] n is = absurd (cc)
least-at x (row ∷ rows) n is = go (λ k h. least-at x rows k h) (left_of x row) (least (map (left_of x) rows)) refl refl is
  where
    go : ((k : ℕ) → least (map (left_of x) rows) ≡ Some k → (i : ℕ) × (left_at x rows i ≡ Some k))
        → (o q : Option ℕ) → left_of x row ≡ o → least (map (left_of x) rows) ≡ q → joined o q ≡ Some n → (k : ℕ) × (left_at x (row ∷ rows) k ≡ Some n)
    go later None q own rest h = let r = later n (rest ∙ h) in (suc r.0, r.1)
    go later (Some a) None own rest h = (zero, own ∙ h)
    go later (Some a) (Some b) own rest h =
        let is-min : min a b ≡ n = cc in
        elim (cases_lt a b) [
          | inl less ↦ let e : a ≡ n = omega (arith, is-min, less) in (zero, own ∙ ap Some e)
          | inr more ↦ let e : b ≡ n = omega (arith, is-min, more) in let r = later n (rest ∙ ap Some e) in (suc r.0, r.1)
        ]

least-is : (x : ThreadId) (rows : List Lockable) (m n : ℕ) → left_at x rows m ≡ Some n → ((k l : ℕ) → left_at x rows k ≡ Some l → n ≤ l)
    → least (map (left_of x) rows) ≡ Some n
least-is x [] m n is low = absurd (cc)
least-is x (row ∷ rows) zero n is low = go (least (map (left_of x) rows)) refl
  where
    go : (q : Option ℕ) → least (map (left_of x) rows) ≡ q → joined (left_of x row) (least (map (left_of x) rows)) ≡ Some n
    go None rest = ap (λ o. joined o (least (map (left_of x) rows))) is ∙ ap (joined (Some n)) rest
    go (Some l) rest =
        let at = least-at x rows l rest in
        let above = low (suc at.0) l at.1 in
        let e : min n l ≡ n = omega (arith, above) in
        ap (λ o. joined o (least (map (left_of x) rows))) is ∙ ap (joined (Some n)) rest ∙ ap Some e
least-is x (row ∷ rows) (suc m) n is low =
    let rest = least-is x rows m n is (λ k l h. low (suc k) l h) in
    ap (joined (left_of x row)) rest ∙ go (left_of x row) refl
  where
    go : (o : Option ℕ) → left_of x row ≡ o → joined (left_of x row) (Some n) ≡ Some n
    go None own = ap (λ o. joined o (Some n)) own
    go (Some a) own = let above = low zero a own in let e : min a n ≡ n = omega (arith, above) in ap (λ o. joined o (Some n)) own ∙ ap Some e

-- the first row that passes
position-none : (test : Lockable → Bool) (i : ℕ) (rows : List Lockable) → ((k : ℕ) (r : Lockable) → slice_get rows k ≡ Some r → test r ≡ false) → position_from test i rows ≡ None
position-none test i [] none = refl
position-none test i (row ∷ rows) none = let here = none zero row refl in rw here (position-none test (i + 1) rows (λ k r h. none (suc k) r h))

position-is : (test : Lockable → Bool) (i : ℕ) (rows : List Lockable) (m : ℕ) (row : Lockable) → slice_get rows m ≡ Some row → test row ≡ true
    → ((k : ℕ) (r : Lockable) → slice_get rows k ≡ Some r → test r ≡ true → k ≡ m) → position_from test i rows ≡ Some (i + m)
position-is test i [] m row at passes alone = absurd (cc)
position-is test i (r ∷ rows) zero row at passes alone = grind (arith, nat_tests)
position-is test i (r ∷ rows) (suc m) row at passes alone =
    let later = position-is test (i + 1) rows m row at passes (λ k q h t. let e = alone (suc k) q h t in omega (arith, e)) in
    let e : (i + 1) + m ≡ i + suc m = omega arith in
    elim (cases_Bool (test r)) [
      | inl here ↦ let clash = alone zero r refl here in absurd (omega (arith, clash))
      | inr off ↦ rw off (later ∙ ap Some e)
    ]

any-none : (test : Lockable → Bool) (rows : List Lockable) → ((k : ℕ) (r : Lockable) → slice_get rows k ≡ Some r → test r ≡ false) → list_any test rows ≡ false
any-none test [] none = refl
any-none test (row ∷ rows) none = let here = none zero row refl in rw here (any-none test rows (λ k r h. none (suc k) r h))

any-at : (test : Lockable → Bool) (rows : List Lockable) (k : ℕ) (r : Lockable) → slice_get rows k ≡ Some r → test r ≡ true → list_any test rows ≡ true
any-at test [] k r at passes = absurd (cc)
any-at test (row ∷ rows) zero r at passes = grind (arith, nat_tests)
any-at test (row ∷ rows) (suc k) r at passes = grind (arith, nat_tests, any-at test rows k)

module _ (c : Configuration) (x : ThreadId) (rows : List Lockable) (held : List Hold) (holds : (m : ℕ) → left_at x rows m ≡ option_map (past_left c) (hold_at m held)) where
  pub held-is : (m : ℕ) → is_held_by x rows m ≡ is_held m held
  held-is m = grind (arith, nat_tests, of-left, by-left, held-found)

  -- what is left of a mutex is left of a hold
  left-hold : (m l : ℕ) → left_at x rows m ≡ Some l → (h : Hold) × (hold_at m held ≡ Some h) × Has held h × (past_left c h ≡ l)
  left-hold m l at = go (hold_at m held) refl
    where
      go : (o : Option Hold) → hold_at m held ≡ o → (h : Hold) × (hold_at m held ≡ Some h) × Has held h × (past_left c h ≡ l)
      go None none = let clash : None ≡ Some l = sym (holds m ∙ ap (option_map (past_left c)) none) ∙ at in absurd (cc)
      go (Some h) some = let is : Some (past_left c h) ≡ Some l = sym (holds m ∙ ap (option_map (past_left c)) some) ∙ at in (h, some, found-hold m held h some, cc)

module _ (c : Configuration) (x : ThreadId) (rows : List Lockable) where
  -- a row that is left of has its mutex
  row-left : (m : ℕ) (row : Lockable) → slice_get rows m ≡ Some row → left_at x rows m ≡ left_of x row
  row-left m row at = ap (λ o. option_map_or (left_of x) o None) at

  left-row : (m l : ℕ) → left_at x rows m ≡ Some l → (row : Lockable) × (slice_get rows m ≡ Some row) × (left_of x row ≡ Some l)
  left-row m l is = go (slice_get rows m) refl
    where
      go : (o : Option Lockable) → slice_get rows m ≡ o → (row : Lockable) × (slice_get rows m ≡ Some row) × (left_of x row ≡ Some l)
      go None at = let clash : None ≡ Some l = sym (ap (λ o. option_map_or (left_of x) o None) at) ∙ is in absurd (cc)
      go (Some row) at = (row, at, sym (row-left m row at) ∙ is)

  within-at : (n m : ℕ) (row : Lockable) → slice_get rows m ≡ Some row → is_within x n row ≡ option_map_or (λ l. leb l n) (left_at x rows m) false
  within-at n m row at = within-left x n row ∙ ap (λ o. option_map_or (λ l. leb l n) o false) (sym (row-left m row at))

  module _ (holds : (m : ℕ) → left_at x rows m ≡ option_map (past_left c) (hold_at m [])) where
    nothing-left : hold_left x rows ≡ 0
    nothing-left = ap (λ o. option_map_or (λ n. n) o 0) (least-none x rows holds)

    nothing-within : (n m : ℕ) (row : Lockable) → slice_get rows m ≡ Some row → is_within x n row ≡ false
    nothing-within n m row at = within-at n m row at ∙ ap (λ o. option_map_or (λ l. leb l n) o false) (holds m)

  module _ (h : Hold) (held : List Hold) (least' : LastIsLeast c (h ∷ held)) (holds : (m : ℕ) → left_at x rows m ≡ option_map (past_left c) (hold_at m (h ∷ held))) where
    first-at : left_at x rows h.mutex ≡ Some (past_left c h)
    first-at = holds h.mutex ∙ rw (eq-eqb h.mutex h.mutex refl) refl

    above : (m l : ℕ) → left_at x rows m ≡ Some l → past_left c h ≤ l
    above m l at =
        let r = left-hold c x rows (h ∷ held) holds m l at in
        elim r.2 [
          | inl is ↦ let e = ap (past_left c) is in omega (arith, e, r.3)
          | inr has ↦ let more = least' r.0 has in omega (arith, more, r.3)
        ]

    first-left : hold_left x rows ≡ past_left c h
    first-left = ap (λ o. option_map_or (λ n. n) o 0) (least-is x rows h.mutex (past_left c h) first-at above)

    -- no other mutex is left for so short
    first-alone : (m l : ℕ) → left_at x rows m ≡ Some l → l ≤ past_left c h → m ≡ h.mutex
    first-alone m l at less = grind (arith, nat_tests, left-hold, found-hold)

    within-alone : (m : ℕ) (row : Lockable) → slice_get rows m ≡ Some row → is_within x (past_left c h) row ≡ true → m ≡ h.mutex
    within-alone m row at passes = grind (arith, nat_tests, within-at, first-alone)

    leb-self : (n : ℕ) → leb n n ≡ true
    leb-self n = grind (arith, nat_tests)

    first-innermost : innermost x rows ≡ Some h.mutex
    first-innermost = grind (arith, nat_tests, left-row, first-at, within-left, leb-self, first-left, position-is, within-alone)

    first-within : (n : ℕ) → holds_within x n rows ≡ leb (past_left c h) n
    first-within n = grind (arith, nat_tests, left-row, first-at, any-at, within-left, any-none, within-at, above)

    first-test : (m : ℕ) → is_innermost x rows m ≡ eqb h.mutex m
    first-test m = grind (arith, nat_tests, first-left, of-left, within-left, first-at, leb-self, first-alone)

-- where the mutex that was locked last may be held the shortest the table tells what the past does
module _ (c : Configuration) (x : ThreadId) (rows : List Lockable) where
  abbrev AreHeld : List Hold → Type 0
  AreHeld held = (m : ℕ) → left_at x rows m ≡ option_map (past_left c) (hold_at m held)

  left-is : (held : List Hold) → LastIsLeast c held → AreHeld held → hold_left x rows ≡ innermost_left c held
  left-is [] last holds = nothing-left c x rows holds
  left-is (h ∷ held) last holds = first-left c x rows h held last holds

  innermost-is : (held : List Hold) → LastIsLeast c held → AreHeld held → innermost x rows ≡ last_locked held
  innermost-is [] last holds = position-none (is_within x (hold_left x rows)) 0 rows (λ k r at. nothing-within c x rows holds (hold_left x rows) k r at)
  innermost-is (h ∷ held) last holds = first-innermost c x rows h held last holds

  pub within-is : (held : List Hold) (n : ℕ) → LastIsLeast c held → AreHeld held → holds_within x n rows ≡ (is_holding held && leb (innermost_left c held) n)
  within-is [] n last holds = any-none (is_within x n) rows (λ k r at. nothing-within c x rows holds n k r at)
  within-is (h ∷ held) n last holds = first-within c x rows h held last holds n

  pub test-is : (held : List Hold) (m : ℕ) → LastIsLeast c held → AreHeld held → is_innermost x rows m ≡ is_past_innermost m held
  test-is [] m last holds = grind (arith, nat_tests, of-left, within-left)
  test-is (h ∷ held) m last holds = first-test c x rows h held last holds m

pub left-past : (c : Configuration) (past : List Entry) (rows : List Lockable) (x : ThreadId) → IsRecount c past rows → LastIsLeast c (held_by x past)
    → hold_left x rows ≡ innermost_left c (held_by x past)
left-past c past rows x is last = left-is c x rows (held_by x past) last (is.holds x)

pub innermost-past : (c : Configuration) (past : List Entry) (rows : List Lockable) (x : ThreadId) → IsRecount c past rows → LastIsLeast c (held_by x past)
    → innermost x rows ≡ last_locked (held_by x past)
innermost-past c past rows x is last = innermost-is c x rows (held_by x past) last (is.holds x)

pub within-past : (c : Configuration) (past : List Entry) (rows : List Lockable) (x : ThreadId) (n : ℕ) → IsRecount c past rows → LastIsLeast c (held_by x past)
    → holds_within x n rows ≡ (is_holding (held_by x past) && leb (innermost_left c (held_by x past)) n)
within-past c past rows x n is last = within-is c x rows (held_by x past) n last (is.holds x)

pub held-past : (c : Configuration) (past : List Entry) (rows : List Lockable) (x : ThreadId) (m : ℕ) → IsRecount c past rows → is_held_by x rows m ≡ is_held m (held_by x past)
held-past c past rows x m is = held-is c x rows (held_by x past) (is.holds x) m

-- A mutex is free where no thread holds it.

module _ (c : Configuration) (past : List Entry) (rows : List Lockable) (m : ℕ) (is : IsRecount c past rows) where
  pub nobody-free : ((x : ThreadId) → is_held m (held_by x past) ≡ false) → is_free m rows ≡ true
  nobody-free nobody = go (slice_get rows m) refl
    where
      some-of : (o : Option Hold) (l : ℕ) → option_map (past_left c) o ≡ Some l → is_some o ≡ true
      some-of None l e = absurd (cc)
      some-of (Some k) l e = refl

      go-row : (row : Lockable) → slice_get rows m ≡ Some row → (o : Option Holder) → row.holder ≡ o → is_none row.holder ≡ true
      go-row row at None none = ap (λ o. is_none o) none
      go-row row at (Some h) some =
          let mine : left_of h.thread row ≡ Some h.left = grind (arith, nat_tests, same-self) in
          let there : left_at h.thread rows m ≡ Some h.left = ap (λ o. option_map_or (left_of h.thread) o None) at ∙ mine in
          let counted : option_map (past_left c) (hold_at m (held_by h.thread past)) ≡ Some h.left = sym (is.holds h.thread m) ∙ there in
          let found : is_some (hold_at m (held_by h.thread past)) ≡ true = some-of (hold_at m (held_by h.thread past)) h.left counted in
          let clash : true ≡ false = sym found ∙ sym (held-found m (held_by h.thread past)) ∙ nobody h.thread in
          absurd (cc)

      go : (o : Option Lockable) → slice_get rows m ≡ o → is_free m rows ≡ true
      go None at = ap (λ o. option_map_or (λ (row : Lockable). is_none row.holder) o true) at
      go (Some row) at = ap (λ o. option_map_or (λ (row : Lockable). is_none row.holder) o true) at ∙ go-row row at row.holder refl

  pub free-nobody : is_free m rows ≡ true → (x : ThreadId) → is_held m (held_by x past) ≡ false
  free-nobody free x =
      sym (held-past c past rows x m is)
      ∙ of-left x (is_by x) (λ o. is_some o) (slice_get rows m) (by-left x)
      ∙ ap (λ o. is_some o) (left-free x m rows free)
