-- The front of the mutexes once a thread has locked one of them.
use Rattle.dk_mutex.proofs.Names.{arith, inl, inr, ◌≡◌, ◌<◌, ◌≤◌, ◌∙◌, ◌⊎◌, true, false, eqb, ℕ, zero, suc, min, length, slice_get, List, [], ◌∷◌, map, Option, Some, None, refl, ap, sym, subst, is_none, option_map, list_any, option_map_or, cases_Bool, cases_lt, ne_eqb, or_parts, or_right, eq-eqb, nat_tests, ThreadId, is_same, same-id, same-self, Front, Holder, Lockable, ceiling_of, holder_left, is_by, is_held, is_holder, is_holder_within, joined, least, left_of, ceiling_at, effective_level, first_holder, given_to, hold_left, holder_at, holds_within, is_free, is_holder_at, IsFrontOf, IsLockable}
use Rattle.dk_mutex.proofs.Lefts.{given-further}
use Rattle.dk_mutex.proofs.Unheld.{runs-there}

joined-swap : (a b c : Option ℕ) → joined a (joined b c) ≡ joined b (joined a c)
joined-swap a b c = grind (arith, nat_tests)

pub free-row : (row : Lockable) → is_none row.holder ≡ true → row.holder ≡ None
free-row row free = go row.holder refl
  where
    go : (o : Option Holder) → row.holder ≡ o → row.holder ≡ None
    go None at = at
    go (Some h) at = let off : false ≡ true = ap (λ (o : Option Holder). is_none o) (sym at) ∙ free in absurd (cc)

-- the least of numbers of the rows once the free mutex is held
given-least : (f : Lockable → Option ℕ) (h : Holder) (o : Option ℕ) → ((row : Lockable) → row.holder ≡ None → f row ≡ None) → (m : ℕ) (rows : List Lockable)
    → ((row : Lockable) → slice_get rows m ≡ Some row → f (record row { holder = Some h }) ≡ o) → is_free m rows ≡ true → m < length rows
    → least (map f (given_to (Some h) m rows)) ≡ joined o (least (map f rows))
given-least f h o frees m [] new free below = absurd (omega arith)
given-least f h o frees zero (row ∷ rows) new free below = grind (arith, nat_tests, free-row, given-further, joined-swap)
given-least f h o frees (suc m) (row ∷ rows) new free below = grind (arith, nat_tests, free-row, given-further, joined-swap, given-least f h o frees m rows)

held-given : (h : Holder) (m : ℕ) (rows : List Lockable) → m < length rows → list_any is_held (given_to (Some h) m rows) ≡ true
held-given h m [] below = absurd (omega arith)
held-given h zero (row ∷ rows) below = refl
held-given h (suc m) (row ∷ rows) below = grind (arith, nat_tests, given-further, or_right, held-given h m rows)

named-some : (all : List Lockable) (level : ℕ) (o : Option Holder) → is_holder_at all level o ≡ true → option_map (λ (h : Holder). h.thread) o ≡ None → ⊥
named-some all level o on none = grind (arith, nat_tests)

-- where nobody runs at the level the first row's holder doesn't
none-parts : (all : List Lockable) (level : ℕ) (row : Lockable) (rows : List Lockable) → first_holder all level (row ∷ rows) ≡ None
    → (is_holder_at all level row.holder ≡ false) × (first_holder all level rows ≡ None)
none-parts all level row rows none = grind (arith, nat_tests, named-some)

-- where nobody runs at the level, nobody holds anything who would
pub none-by : (all : List Lockable) (x : ThreadId) (level : ℕ) → least (map (ceiling_of x) all) ≡ Some level → (rows : List Lockable)
    → first_holder all level rows ≡ None → least (map (ceiling_of x) rows) ≡ None
none-by all x level is [] none = refl
none-by all x level is (row ∷ rows) none =
    let parts = none-parts all level row rows none in
    elim (cases_Bool (is_by x row)) [
      | inl by ↦ let clash : true ≡ false = sym (runs row.holder by) ∙ parts.0 in absurd (cc)
      | inr other ↦ rw other (none-by all x level is rows parts.1)
    ]
  where
    runs : (o : Option Holder) → is_holder x o ≡ true → is_holder_at all level o ≡ true
    runs None by = absurd (cc)
    runs (Some h) by =
        let own : effective_level x h.level all ≡ level = ap (λ o. option_map_or (λ n. n) o h.level) is in
        let same : effective_level h.thread h.level all ≡ level = subst (λ y. effective_level y h.level all ≡ level) (same-id x h.thread by) own in
        ap (λ n. eqb n level) same ∙ eq-eqb level level refl

-- the holder that runs first runs at the level by what it holds
pub at-level : (x : ThreadId) (rows : List Lockable) (front : Front) → IsFrontOf front rows → front.holder ≡ Some x → least (map (ceiling_of x) rows) ≡ Some front.level
at-level x rows front was is = go (least (map (ceiling_of x) rows)) refl
  where
    runs : (own : ℕ) → effective_level x own rows ≡ front.level
    runs own = runs-there rows front.level x own rows (λ r has. has) (sym was.holder ∙ is)

    go : (o : Option ℕ) → least (map (ceiling_of x) rows) ≡ o → least (map (ceiling_of x) rows) ≡ Some front.level
    go None at =
        let own : suc front.level ≡ front.level = ap (λ o. option_map_or (λ n. n) o (suc front.level)) (sym at) ∙ runs (suc front.level) in
        absurd (omega (arith, own))
    go (Some n) at = at ∙ ap Some (ap (λ o. option_map_or (λ n. n) o 0) (sym at) ∙ runs 0)

-- what the thread has left of each mutex is more
above-all : (x : ThreadId) (most : ℕ) (rows : List Lockable) (n : ℕ) → holds_within x most rows ≡ false → least (map (left_of x) rows) ≡ Some n → most < n
above-all x most [] n far is = absurd (cc)
above-all x most (row ∷ rows) n far is =
    let parts = or_parts (is_holder_within x most row.holder) (holds_within x most rows) far in
    go (left_of x row) (at-holder row.holder parts.0) (least (map (left_of x) rows)) (λ b at. above-all x most rows b parts.1 at) is
  where
    at-holder : (o : Option Holder) → is_holder_within x most o ≡ false → (a : ℕ) → holder_left x o ≡ Some a → most < a
    at-holder None off a e = absurd (cc)
    at-holder (Some h) off a e = elim (cases_Bool (is_same x h.thread)) [
      | inl same ↦ grind (arith, nat_tests)
      | inr other ↦ let none : None ≡ Some a = rw other at e in absurd (cc)
    ]

    go : (o : Option ℕ) → ((a : ℕ) → o ≡ Some a → most < a) → (p : Option ℕ) → ((b : ℕ) → p ≡ Some b → most < b) → joined o p ≡ Some n → most < n
    go None here p there e = there n e
    go (Some a) here None there e = here n e
    go (Some a) here (Some b) there e =
        let one : most < a = here a refl in
        let other : most < b = there b refl in
        let number : min a b ≡ n = cc in
        omega (arith, one, other, number)

module _ (h : Holder) (m : ℕ) (rows : List Lockable) (can : IsLockable h m rows) where
  abbrev pub next : List Lockable
  next = given_to (Some h) m rows

  unheld-ceiling : (y : ThreadId) (row : Lockable) → row.holder ≡ None → ceiling_of y row ≡ None
  unheld-ceiling y row none = rw none refl

  unheld-left : (y : ThreadId) (row : Lockable) → row.holder ≡ None → left_of y row ≡ None
  unheld-left y row none = rw none refl

  -- the thread's levels
  own-level : (own : ℕ) → effective_level h.thread own next ≡ option_map_or (λ n. n) (joined (Some (ceiling_at rows m)) (least (map (ceiling_of h.thread) rows))) own
  own-level own = ap (λ o. option_map_or (λ n. n) o own)
      (given-least (ceiling_of h.thread) h (Some (ceiling_at rows m)) (unheld-ceiling h.thread) m rows
      (λ row at. rw (same-self h.thread, at) refl) can.free can.known)

  -- those of others stay
  other-level : (y : ThreadId) (own : ℕ) → is_same y h.thread ≡ false → effective_level y own next ≡ effective_level y own rows
  other-level y own apart = ap (λ o. option_map_or (λ n. n) o own)
      (given-least (ceiling_of y) h None (unheld-ceiling y) m rows (λ row at. rw apart refl) can.free can.known)

  pub own-left : hold_left h.thread next ≡ h.left
  own-left =
      ap (λ o. option_map_or (λ n. n) o 0)
      (given-least (left_of h.thread) h (Some h.left) (unheld-left h.thread) m rows (λ row at. rw (same-self h.thread) refl) can.free can.known)
      ∙ go (least (map (left_of h.thread) rows)) (λ n at. above-all h.thread h.left rows n can.least at)
    where
      go : (o : Option ℕ) → ((n : ℕ) → o ≡ Some n → h.left < n) → option_map_or (λ n. n) (joined (Some h.left) o) 0 ≡ h.left
      go None above = refl
      go (Some n) above = let less : h.left < n = above n refl in omega (arith, less)

  other-runs : (k : ℕ) (o : Option Holder) → is_holder h.thread o ≡ false → is_holder_at next k o ≡ is_holder_at rows k o
  other-runs k o apart = grind (arith, nat_tests, same-id, same-self, other-level)

  module _ (level : ℕ) (runs : (own : ℕ) → effective_level h.thread own next ≡ level) where
    own-runs : (k : ℕ) (o : Option Holder) → is_holder h.thread o ≡ true → is_holder_at next k o ≡ eqb level k
    own-runs k None by = absurd (cc)
    own-runs k (Some g) by = ap (λ n. eqb n k) (subst (λ y. effective_level y g.level next ≡ level) (same-id h.thread g.thread by) (runs g.level))

    own-name : (o : Option Holder) → is_holder h.thread o ≡ true → option_map (λ (g : Holder). g.thread) o ≡ Some h.thread
    own-name o by = grind (arith, nat_tests, same-id)

    runs-now : is_holder_at next level (Some h) ≡ true
    runs-now = own-runs level (Some h) (same-self h.thread) ∙ eq-eqb level level refl

    -- the thread runs at the level, where nobody else was the one that did
    first-is : (rest : List Lockable) (j : ℕ) → j < length rest → (first_holder rows level rest ≡ None) ⊎ (first_holder rows level rest ≡ Some h.thread)
        → first_holder next level (given_to (Some h) j rest) ≡ Some h.thread
    first-is [] j below was = absurd (omega arith)
    first-is (row ∷ rest) zero below was = rw runs-now refl
    first-is (row ∷ rest) (suc j) below was = grind (arith, nat_tests, runs-now, given-further, own-runs, eq-eqb, own-name, other-runs, named-some, first-is rest j)

    -- nobody runs at another level where nobody did
    module _ (k : ℕ) (apart : eqb level k ≡ false) where
      still-off : (o : Option Holder) → is_holder_at rows k o ≡ false → is_holder_at next k o ≡ false
      still-off o off = grind (arith, nat_tests, own-runs, other-runs)

      none-rest : (rest : List Lockable) → first_holder rows k rest ≡ None → first_holder next k rest ≡ None
      none-rest [] none = refl
      none-rest (row ∷ rest) none = grind (arith, nat_tests, none-parts, still-off, none-rest rest)

      none-still : (rest : List Lockable) (j : ℕ) → first_holder rows k rest ≡ None → first_holder next k (given_to (Some h) j rest) ≡ None
      none-still [] j none = refl
      none-still (row ∷ rest) zero none = grind (arith, nat_tests, own-runs, same-self, none-rest, none-parts, given-further, still-off)
      none-still (row ∷ rest) (suc j) none = grind (arith, nat_tests, own-runs, same-self, none-rest, none-parts, given-further, still-off, none-still rest j)

  -- the front once the ceiling is below its level, or the thread is its holder
  module _ (front : Front) (was : IsFrontOf front rows) where
    above-level : (n : ℕ) → least (map (ceiling_of h.thread) rows) ≡ Some n → front.level ≤ n
    above-level n is = elim (cases_lt n front.level) [
      | inl less ↦
          let none : least (map (ceiling_of h.thread) rows) ≡ None = none-by rows h.thread n is rows (was.before n less) in
          absurd (cc)
      | inr more ↦ more
    ]

    joined-runs : (o : Option ℕ) → ((n : ℕ) → o ≡ Some n → front.level ≤ n)
        → (ceiling_at rows m < front.level) ⊎ (o ≡ Some front.level) → (own : ℕ)
        → option_map_or (λ n. n) (joined (Some (ceiling_at rows m)) o) own ≡ min front.level (ceiling_at rows m)
    joined-runs o above is own = grind (arith, nat_tests)

    pub front-locked : (after : Front) → (ceiling_at rows m < front.level) ⊎ (front.holder ≡ Some h.thread)
        → after ≡ record { level = min front.level (ceiling_at rows m); holder = Some h.thread; left = h.left } → IsFrontOf after next
    front-locked after first is = subst (λ f. IsFrontOf f next) (sym is) (record {
      held = sym (held-given h m rows can.known);
      before = λ k less. none-still (min front.level (ceiling_at rows m)) runs k (ne_eqb (min front.level (ceiling_at rows m)) k (λ same. omega (arith, less, same))) rows m
          (was.before k (omega (arith, less)));
      holder = sym (first-is (min front.level (ceiling_at rows m)) runs rows m can.known earlier);
      left = λ x named. let name : h.thread ≡ x = cc in subst (λ y. h.left ≡ hold_left y next) name (sym own-left);
    })
      where
        holding : (ceiling_at rows m < front.level) ⊎ (least (map (ceiling_of h.thread) rows) ≡ Some front.level)
        holding = elim first [ inl less ↦ inl less | inr named ↦ inr (at-level h.thread rows front was named) ]

        runs : (own : ℕ) → effective_level h.thread own next ≡ min front.level (ceiling_at rows m)
        runs own = own-level own ∙ joined-runs (least (map (ceiling_of h.thread) rows)) above-level holding own

        earlier : (holder_at (min front.level (ceiling_at rows m)) rows ≡ None) ⊎ (holder_at (min front.level (ceiling_at rows m)) rows ≡ Some h.thread)
        earlier = elim (cases_lt (ceiling_at rows m) front.level) [
          | inl less ↦ inl (was.before (min front.level (ceiling_at rows m)) (omega (arith, less)))
          | inr more ↦ grind (arith, nat_tests)
        ]
