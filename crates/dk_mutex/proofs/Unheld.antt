-- Where nobody holds a mutex, or the thread holds none, no row has to be asked.
use Rattle.dk_mutex.proofs.Names.{arith, inl, inr, ◌≡◌, ◌∙◌, true, false, ℕ, min, List, [], ◌∷◌, map, Option, Some, None, refl, ap, sym, subst, is_some, option_map, list_any, option_map_or, cases_Bool, ne_eqb, eqb-true, ThreadId, Has, same-self, Holder, Lockable, Configuration, row_of, ceiling_of, is_by, is_by_at, is_held, is_held_at, is_holder, joined, least, left_of, spent, effective_level, first_holder, hold_left, holder_at, is_holder_at, nat_tests}

-- where nobody holds a mutex the thread holds none
pub unheld-by : (x : ThreadId) (rows : List Lockable) → list_any is_held rows ≡ false → list_any (is_by x) rows ≡ false
unheld-by x [] none = refl
unheld-by x (row ∷ rows) none = grind (arith, nat_tests, unheld-by x rows)

-- who holds nothing has nothing taken
pub spent-none : (x : ThreadId) (rows : List Lockable) → list_any (is_by x) rows ≡ false → map (spent x) rows ≡ rows
spent-none x [] none = refl
spent-none x (row ∷ rows) none = grind (arith, nat_tests, spent-none x rows)

-- a tick frees nobody
pub held-spent : (x : ThreadId) (rows : List Lockable) → list_any is_held (map (spent x) rows) ≡ list_any is_held rows
held-spent x [] = refl
held-spent x (row ∷ rows) = grind (arith, nat_tests, held-spent x rows)

pub no-left : (x : ThreadId) (rows : List Lockable) → list_any (is_by x) rows ≡ false → least (map (left_of x) rows) ≡ None
no-left x [] none = refl
no-left x (row ∷ rows) none = grind (arith, nat_tests, no-left x rows)

no-ceiling : (x : ThreadId) (rows : List Lockable) → list_any (is_by x) rows ≡ false → least (map (ceiling_of x) rows) ≡ None
no-ceiling x [] none = refl
no-ceiling x (row ∷ rows) none = grind (arith, nat_tests, no-ceiling x rows)

pub nothing-left : (x : ThreadId) (rows : List Lockable) → list_any (is_by x) rows ≡ false → hold_left x rows ≡ 0
nothing-left x rows none = ap (λ o. option_map_or (λ n. n) o 0) (no-left x rows none)

pub own-level : (x : ThreadId) (own : ℕ) (rows : List Lockable) → list_any (is_by x) rows ≡ false → effective_level x own rows ≡ own
own-level x own rows none = ap (λ o. option_map_or (λ n. n) o own) (no-ceiling x rows none)

pub nobody-at : (all : List Lockable) (level : ℕ) (rows : List Lockable) → list_any is_held rows ≡ false → first_holder all level rows ≡ None
nobody-at all level [] none = refl
nobody-at all level (row ∷ rows) none = grind (arith, nat_tests, nobody-at all level rows)

pub start-unheld : (c : Configuration) (ns : List ℕ) → list_any is_held (map (row_of c) ns) ≡ false
start-unheld c [] = refl
start-unheld c (n ∷ ns) = start-unheld c ns

-- Who runs at a level holds a mutex of that ceiling.

pub by-somebody : (x : ThreadId) (o : Option Holder) → is_holder x o ≡ true → is_some o ≡ true
by-somebody x o h = grind (arith, nat_tests)

pub least-by : (x : ThreadId) (rows : List Lockable) (n : ℕ) → least (map (ceiling_of x) rows) ≡ Some n → list_any (is_by_at n x) rows ≡ true
least-by x [] n is = absurd (cc)
least-by x (row ∷ rows) n is = grind (arith, nat_tests, least-by x rows)

-- a mutex that a thread holds is held
pub held-by : (x : ThreadId) (n : ℕ) (rows : List Lockable) → list_any (is_by_at n x) rows ≡ true → list_any (is_held_at n) rows ≡ true
held-by x n [] on = absurd (cc)
held-by x n (row ∷ rows) on = grind (arith, nat_tests, held-by x n rows)

least-held : (x : ThreadId) (rows : List Lockable) (n : ℕ) → least (map (ceiling_of x) rows) ≡ Some n → list_any (is_held_at n) rows ≡ true
least-held x rows n is = held-by x n rows (least-by x rows n is)

-- of a holder there is a least ceiling
pub least-some : (x : ThreadId) (rows : List Lockable) (row : Lockable) → Has rows row → is_by x row ≡ true → (n : ℕ) × (least (map (ceiling_of x) rows) ≡ Some n)
least-some x [] row h by = absurd h
least-some x (r ∷ rows) row (inl is) by =
    let here : is_by x r ≡ true = ap (is_by x) is ∙ by in
    let one : ceiling_of x r ≡ Some r.ceiling = rw here refl in
    let o = joined-some r.ceiling (least (map (ceiling_of x) rows)) in
    (o.0, ap (λ c. joined c (least (map (ceiling_of x) rows))) one ∙ o.1)
  where
    joined-some : (a : ℕ) (o : Option ℕ) → (n : ℕ) × (joined (Some a) o ≡ Some n)
    joined-some a None = (a, refl)
    joined-some a (Some b) = (min a b, refl)
least-some x (r ∷ rows) row (inr h) by =
    let rest = least-some x rows row h by in
    let o = joined-more (ceiling_of x r) rest.0 in
    (o.0, ap (joined (ceiling_of x r)) rest.1 ∙ o.1)
  where
    joined-more : (o : Option ℕ) (b : ℕ) → (n : ℕ) × (joined o (Some b) ≡ Some n)
    joined-more None b = (b, refl)
    joined-more (Some a) b = (min a b, refl)

none-runs : (all : List Lockable) (level : ℕ) (row : Lockable) → Has all row → list_any (is_held_at level) all ≡ false → is_holder_at all level row.holder ≡ false
none-runs all level row among none = go row.holder refl
  where
    go : (o : Option Holder) → row.holder ≡ o → is_holder_at all level o ≡ false
    go None at = refl
    go (Some h) at =
        let by : is_by h.thread row ≡ true = ap (is_holder h.thread) at ∙ same-self h.thread in
        let n = least-some h.thread all row among by in
        let runs : effective_level h.thread h.level all ≡ n.0 = ap (λ o. option_map_or (λ m. m) o h.level) n.1 in
        ne_eqb (effective_level h.thread h.level all) level
        (λ same.
        let on : list_any (is_held_at level) all ≡ true = subst (λ m. list_any (is_held_at m) all ≡ true) (sym runs ∙ same) (least-held h.thread all n.0 n.1) in
        let no : true ≡ false = sym on ∙ none in
        absurd (cc))

none-of : (all : List Lockable) (level : ℕ) (rows : List Lockable) → ((row : Lockable) → Has rows row → Has all row) → list_any (is_held_at level) all ≡ false → first_holder all level rows ≡ None
none-of all level [] within none = refl
none-of all level (row ∷ rows) within none = grind (arith, nat_tests, none-runs, none-of all level rows)

pub none-there : (level : ℕ) (rows : List Lockable) → list_any (is_held_at level) rows ≡ false → holder_at level rows ≡ None
none-there level rows none = none-of rows level rows (λ r h. h) none

-- the holder that runs at a level runs there, whatever its own level is said to be
pub runs-there : (all : List Lockable) (level : ℕ) (x : ThreadId) (own : ℕ) (rows : List Lockable) → ((row : Lockable) → Has rows row → Has all row)
    → first_holder all level rows ≡ Some x → effective_level x own all ≡ level
runs-there all level x own [] within is = absurd (cc)
runs-there all level x own (row ∷ rows) within is = elim (cases_Bool (is_holder_at all level row.holder)) [
  | inl on ↦ here row.holder refl on (let first : option_map (λ (h : Holder). h.thread) row.holder ≡ Some x = rw on at is in first)
  | inr off ↦ runs-there all level x own rows (λ r h. within r (inr h)) (let later : first_holder all level rows ≡ Some x = rw off at is in later)
]
  where
    here : (o : Option Holder) → row.holder ≡ o → is_holder_at all level o ≡ true → option_map (λ (h : Holder). h.thread) o ≡ Some x → effective_level x own all ≡ level
    here None at on named = absurd (cc)
    here (Some h) at on named =
        let name : h.thread ≡ x = cc in
        let by : is_by h.thread row ≡ true = ap (is_holder h.thread) at ∙ same-self h.thread in
        let n = least-some h.thread all row (within row (inl refl)) by in
        let one : effective_level h.thread own all ≡ n.0 = ap (λ o. option_map_or (λ m. m) o own) n.1 in
        let two : effective_level h.thread h.level all ≡ n.0 = ap (λ o. option_map_or (λ m. m) o h.level) n.1 in
        let level-is : effective_level h.thread h.level all ≡ level = eqb-true (effective_level h.thread h.level all) level on in
        subst (λ y. effective_level y own all ≡ level) name (one ∙ sym two ∙ level-is)
