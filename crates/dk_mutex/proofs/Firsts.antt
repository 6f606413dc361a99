-- Who runs first, where one thread alone holds what is held of the least ceiling.
use Rattle.dk_mutex.proofs.Names.{add-one, arith, inl, inr, ◌≡◌, ◌<◌, ◌≤◌, ◌+◌, ◌++◌, ◌∙◌, ◌⊎◌, ◌||◌, ◌&&◌, not, Bool, true, false, eqb, ℕ, min, length, take, get_or, List, [], ◌∷◌, map, Option, Some, None, refl, ap, sym, is_some, option_map, list_any, option_map_or, and_parts, cases_Bool, cases_lt, ne_eqb, or_parts, eq-eqb, eqb-true, or_right, and-false, ThreadId, is_same, Has, same-id, same-self, FirstHold, Holder, IsFirstHold, IsLeastHold, Lockable, ceiling_of, is_by, is_by_at, is_held, is_held_at, is_holder, is_other_at, joined, least, effective_level, first_holder, holder_at, is_holder_at, nat_tests}
use Rattle.std.proofs.lemmas.List.Folds.{list_any-append}
use Rattle.std.proofs.Math.Seq.{take-suc}
use Rattle.dk_mutex.proofs.Unheld.{by-somebody, held-by, least-by, least-some}
use Rattle.dk_mutex.proofs.Locking.{none-by}

-- the least ceiling of a thread isn't above one that it holds
at-most : (x : ThreadId) (level : ℕ) (rows : List Lockable) → list_any (is_by_at level x) rows ≡ true
    → (n : ℕ) × ((least (map (ceiling_of x) rows) ≡ Some n) × (n ≤ level))
at-most x level [] on = absurd (cc)
at-most x level (row ∷ rows) on = elim (cases_Bool (is_by_at level x row)) [
  | inl here ↦
      let parts = and_parts (eqb row.ceiling level) (is_by x row) here in
      let same : row.ceiling ≡ level = eqb-true row.ceiling level parts.0 in
      rw parts.1 (first same (least (map (ceiling_of x) rows)))
  | inr off ↦
      let later : list_any (is_by_at level x) rows ≡ true = rw off at on in
      let rest = at-most x level rows later in
      further (ceiling_of x row) (least (map (ceiling_of x) rows)) rest.0 rest.1.0 rest.1.1
]
  where
    first : row.ceiling ≡ level → (o : Option ℕ) → (n : ℕ) × ((joined (Some row.ceiling) o ≡ Some n) × (n ≤ level))
    first same None = (row.ceiling, (refl, omega (arith, same)))
    first same (Some b) = (min row.ceiling b, (refl, omega (arith, same)))

    further : (o p : Option ℕ) (l : ℕ) → p ≡ Some l → l ≤ level → (k : ℕ) × ((joined o p ≡ Some k) × (k ≤ level))
    further None p l is below = (l, (is, below))
    further (Some a) p l is below = (min a l, (ap (joined (Some a)) is, omega (arith, below)))

-- whoever holds a mutex of the ceiling is the thread
same-one : (x y : ThreadId) (level : ℕ) (rows : List Lockable) → list_any (is_by_at level y) rows ≡ true → list_any (is_other_at level x) rows ≡ false → y ≡ x
same-one x y level [] on alone = absurd (cc)
same-one x y level (row ∷ rows) on alone =
    let apart = or_parts (is_other_at level x row) (list_any (is_other_at level x) rows) alone in
    elim (cases_Bool (is_by_at level y row)) [
      | inl here ↦ grind (arith, nat_tests, and_parts)
      | inr off ↦
          let later : list_any (is_by_at level y) rows ≡ true = rw off at on in
          same-one x y level rows later apart.1
    ]
  where
    go : (o : Option Holder) → is_holder y o ≡ true → (is_some o && not (is_holder x o)) ≡ false → y ≡ x
    go None by mine = absurd (cc)
    go (Some h) by mine = elim (cases_Bool (is_same x h.thread)) [
      | inl same ↦ same-id y h.thread by ∙ sym (same-id x h.thread same)
      | inr other ↦ let clash : true ≡ false = rw other at mine in absurd (cc)
    ]

-- who holds a mutex of the least ceiling that is held runs there
runs-some : (x : ThreadId) (level : ℕ) (all : List Lockable) → ((k : ℕ) → k < level → list_any (is_held_at k) all ≡ false)
    → list_any (is_by_at level x) all ≡ true → holder_at level all ≡ None → ⊥
runs-some x level all before on none =
    let n = at-most x level all on in
    let not-less : level ≤ n.0 = elim (cases_lt n.0 level) [
      | inl less ↦
          let held : list_any (is_held_at n.0) all ≡ true = held-by x n.0 all (least-by x all n.0 n.1.0) in
          let clash : true ≡ false = sym held ∙ before n.0 less in
          absurd (cc)
      | inr more ↦ more
    ] in
    let is : n.0 ≡ level = omega (arith, not-less, n.1.1) in
    let found : least (map (ceiling_of x) all) ≡ Some level = n.1.0 ∙ ap Some is in
    let nothing : least (map (ceiling_of x) all) ≡ None = none-by all x level found all none in
    absurd (cc)

module _ (x : ThreadId) (level : ℕ) (all : List Lockable) (alone : list_any (is_other_at level x) all ≡ false) where
  -- whoever runs at the level is the thread
  only-one : (rows : List Lockable) → ((row : Lockable) → Has rows row → Has all row)
      → (first_holder all level rows ≡ None) ⊎ (first_holder all level rows ≡ Some x)
  only-one [] within = inl refl
  only-one (row ∷ rows) within = elim (cases_Bool (is_holder_at all level row.holder)) [
    | inl on ↦ inr (rw on (go row.holder refl on))
    | inr off ↦ rw off (only-one rows (λ r has. within r (inr has)))
  ]
    where
      go : (o : Option Holder) → row.holder ≡ o → is_holder_at all level o ≡ true → option_map (λ (h : Holder). h.thread) o ≡ Some x
      go None at on = absurd (cc)
      go (Some h) at on =
          let by : is_by h.thread row ≡ true = ap (is_holder h.thread) at ∙ same-self h.thread in
          let n = least-some h.thread all row (within row (inl refl)) by in
          let runs : effective_level h.thread h.level all ≡ n.0 = ap (λ o. option_map_or (λ m. m) o h.level) n.1 in
          let level-is : n.0 ≡ level = sym runs ∙ eqb-true (effective_level h.thread h.level all) level on in
          ap Some (same-one x h.thread level all (least-by h.thread all level (n.1 ∙ ap Some level-is)) alone)

  pub first-alone : ((k : ℕ) → k < level → list_any (is_held_at k) all ≡ false) → list_any (is_by_at level x) all ≡ true → holder_at level all ≡ Some x
  first-alone before on = grind (arith, nat_tests, only-one, runs-some)

-- The first hold of the least ceiling, row by row.

pub take-one : (rows : List Lockable) (i : ℕ) (d : Lockable) → i < length rows → take (i + 1) rows ≡ take i rows ++ get_or rows i d ∷ []
take-one rows i d h = rw add-one (take-suc rows i d h)

any-more : (test : Lockable → Bool) (rows : List Lockable) (row : Lockable) → list_any test (rows ++ row ∷ []) ≡ (list_any test rows || (test row || false))
any-more test rows row = list_any-append test rows (row ∷ [])

any-off : (test : Lockable → Bool) (rows : List Lockable) (row : Lockable) → list_any test rows ≡ false → test row ≡ false → list_any test (rows ++ row ∷ []) ≡ false
any-off test rows row off one = any-more test rows row ∙ rw (off, one) refl

any-last : (test : Lockable → Bool) (rows : List Lockable) (row : Lockable) → test row ≡ true → list_any test (rows ++ row ∷ []) ≡ true
any-last test rows row on = any-more test rows row ∙ rw on (or_right (list_any test rows) true refl)

unheld-at : (k : ℕ) (rows : List Lockable) → list_any is_held rows ≡ false → list_any (is_held_at k) rows ≡ false
unheld-at k [] off = refl
unheld-at k (row ∷ rows) off = grind (arith, nat_tests, or_parts, and-false, unheld-at k rows)

-- one of a lower ceiling, or the first, takes its place
pub first-lower : (first : Option FirstHold) (rows : List Lockable) (row : Lockable) (h : Holder) → row.holder ≡ Some h
    → ((hold : FirstHold) → first ≡ Some hold → row.ceiling ≤ hold.ceiling) → IsFirstHold first rows
    → IsFirstHold (Some (record { ceiling = row.ceiling; thread = h.thread })) (rows ++ row ∷ [])
first-lower first rows row h held below was = record {
  before = λ k less. any-off (is_held_at k) rows row (earlier first below was k less) (off k (ne_eqb row.ceiling k (λ same. omega (arith, same, less))));
  by = any-last (is_by_at row.ceiling h.thread) rows row (on (ap (is_holder h.thread) held ∙ same-self h.thread));
}
  where
    off : (k : ℕ) → eqb row.ceiling k ≡ false → is_held_at k row ≡ false
    off k other = rw other refl

    on : is_by h.thread row ≡ true → is_by_at row.ceiling h.thread row ≡ true
    on by = rw (eq-eqb row.ceiling row.ceiling refl, by) refl

    earlier : (first : Option FirstHold) → ((hold : FirstHold) → first ≡ Some hold → row.ceiling ≤ hold.ceiling) → IsFirstHold first rows
        → (k : ℕ) → k < row.ceiling → list_any (is_held_at k) rows ≡ false
    earlier None below was k less = unheld-at k rows was
    earlier (Some hold) below was k less = let le : row.ceiling ≤ hold.ceiling = below hold refl in was.before k (omega (arith, less, le))

pub no-higher : (first : Option FirstHold) (hold : FirstHold) (row : Lockable) → first ≡ Some hold → row.ceiling < hold.ceiling
    → (other : FirstHold) → first ≡ Some other → row.ceiling ≤ other.ceiling
no-higher first hold row is less other too = grind (arith, nat_tests)

-- where a thread holds a mutex one is held
held-first : (x : ThreadId) (level : ℕ) (rows : List Lockable) → list_any (is_by_at level x) rows ≡ true → list_any is_held rows ≡ true
held-first x level [] on = absurd (cc)
held-first x level (row ∷ rows) on = grind (arith, nat_tests, and_parts, by-somebody, or_right, held-first x level rows)

pub somebody : (hold : FirstHold) (rows : List Lockable) → IsLeastHold hold rows → is_some (holder_at hold.ceiling rows) ≡ list_any is_held rows
somebody hold rows is = go (holder_at hold.ceiling rows) refl ∙ sym (held-first hold.thread hold.ceiling rows is.by)
  where
    go : (o : Option ThreadId) → holder_at hold.ceiling rows ≡ o → is_some (holder_at hold.ceiling rows) ≡ true
    go None none = absurd (runs-some hold.thread hold.ceiling rows is.before is.by none)
    go (Some x) some = ap (λ o. is_some o) some
