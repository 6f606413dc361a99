-- What is owed, once it is taken from the rows.
use Rattle.dk_mutex.proofs.Names.{arith, inl, inr, ◌≡◌, ◌∙◌, ◌-◌, ◌+◌, Bool, true, false, leb, ℕ, zero, suc, List, [], ◌∷◌, length, map, Option, Some, None, refl, ap, sym, subst, max, nat_le, option_map, if◌then◌else◌, list_any, position_from, refill, option_map_or, cases_Bool, length-map, ThreadId, is_same, same-id, same-self, Holder, Lockable, ceiling_of, holder_left, is_by_process, is_within, is_within_owed, joined, least, left_of, left_under, left_up_to, lowered, lowered_by, owed_by, spent, taken, at_row, given_to, hold_left, holder_at, nat_tests}
use Rattle.dk_mutex.proofs.Fronts.{same-first, same-least, within-one}
use Rattle.dk_mutex.proofs.Giving.{rows-whole}
use Rattle.dk_mutex.proofs.Lefts.{given-further}

less-none : (a : ℕ) → a - 0 ≡ a
less-none a = omega arith

pub lowered-none : (x : ThreadId) (o : Option Holder) → lowered_by 0 x o ≡ o
lowered-none x o = grind (arith, nat_tests, less-none)

-- nothing is owed
pub taken-none : (x : ThreadId) (rows : List Lockable) → map (taken 0 x) rows ≡ rows
taken-none x [] = refl
taken-none x (row ∷ rows) = grind (arith, nat_tests, lowered-none, taken-none x rows)

less-more : (a n : ℕ) → a - suc n ≡ (a - n) - 1
less-more a n = omega arith

lowered-more : (n : ℕ) (x : ThreadId) (o : Option Holder) → lowered_by (suc n) x o ≡ lowered x (lowered_by n x o)
lowered-more n x o = grind (arith, nat_tests, less-more)

-- one tick more
pub taken-more : (n : ℕ) (x : ThreadId) (rows : List Lockable) → map (taken (suc n) x) rows ≡ map (spent x) (map (taken n x) rows)
taken-more n x [] = refl
taken-more n x (row ∷ rows) = grind (arith, nat_tests, lowered-more, taken-more n x rows)

-- what was owed is taken from the rows
pub paid : (n later : ℕ) (x : ThreadId) (rows made : List Lockable) → later ≡ 0 → made ≡ map (taken n x) rows
    → map (taken later x) (refill (length rows) rows made) ≡ map (taken n x) rows
paid n later x rows made none is = grind (arith, nat_tests, taken-none, rows-whole, length-map)

-- what each tick keeps
pub taken-keeps : (P : List Lockable → Type 0) (x : ThreadId) (rows : List Lockable) → P rows → ((rs : List Lockable) → P rs → P (map (spent x) rs))
    → (n : ℕ) → P (map (taken n x) rows)
taken-keeps P x rows was keeps zero = subst P (sym (taken-none x rows)) was
taken-keeps P x rows was keeps (suc n) = subst P (sym (taken-more n x rows)) (keeps (map (taken n x) rows) (taken-keeps P x rows was keeps n))

pub taken-first : (n : ℕ) (x : ThreadId) (level : ℕ) (rows : List Lockable) → holder_at level (map (taken n x) rows) ≡ holder_at level rows
taken-first n x level rows = taken-keeps (λ rs. holder_at level rs ≡ holder_at level rows) x rows refl (λ rs e. same-first x rs level rs ∙ e) n

pub taken-least : (n : ℕ) (x y : ThreadId) (rows : List Lockable) → least (map (ceiling_of y) (map (taken n x) rows)) ≡ least (map (ceiling_of y) rows)
taken-least n x y rows = taken-keeps (λ rs. least (map (ceiling_of y) rs) ≡ least (map (ceiling_of y) rows)) x rows refl (λ rs e. same-least y x rs ∙ e) n

same-process : (p n : ℕ) (x : ThreadId) (row : Lockable) → is_by_process p (taken n x row) ≡ is_by_process p row
same-process p n x row = go row.holder
  where
    go : (o : Option Holder) → is_by_process p (record row { holder = lowered_by n x o }) ≡ is_by_process p (record row { holder = o })
    go None = refl
    go (Some h) = elim (cases_Bool (is_same x h.thread)) [ inl on ↦ rw on refl | inr off ↦ rw off refl ]

-- a test of the rows, by one of the rows as they stand
pub any-by : (f : Lockable → Lockable) (test stands : Lockable → Bool) → ((row : Lockable) → test (f row) ≡ stands row)
    → (rows : List Lockable) → list_any test (map f rows) ≡ list_any stands rows
any-by f test stands same [] = refl
any-by f test stands same (row ∷ rows) = grind (arith, nat_tests, any-by f test stands same rows)

pub position-by : (f : Lockable → Lockable) (test stands : Lockable → Bool) → ((row : Lockable) → test (f row) ≡ stands row)
    → (i : ℕ) (rows : List Lockable) → position_from test i (map f rows) ≡ position_from stands i rows
position-by f test stands same i [] = refl
position-by f test stands same i (row ∷ rows) = grind (arith, nat_tests, position-by f test stands same (i + 1) rows)

pub at-by : (f : Lockable → Lockable) (test stands : Lockable → Bool) → ((row : Lockable) → test (f row) ≡ stands row)
    → (rows : List Lockable) (m : ℕ) → at_row test (map f rows) m ≡ at_row stands rows m
at-by f test stands same [] m = refl
at-by f test stands same (row ∷ rows) zero = same row
at-by f test stands same (row ∷ rows) (suc m) = at-by f test stands same rows m

pub taken-process : (n : ℕ) (x : ThreadId) (p : ℕ) (rows : List Lockable) → list_any (is_by_process p) (map (taken n x) rows) ≡ list_any (is_by_process p) rows
taken-process n x p rows = any-by (taken n x) (is_by_process p) (is_by_process p) (same-process p n x) rows

-- what a thread has left
apart-same : (y x : ThreadId) (z : ThreadId) → is_same x z ≡ true → is_same y x ≡ false → is_same y z ≡ false
apart-same y x z on apart = subst (λ t. is_same y t ≡ false) (same-id x z on) apart

left-holder : (y x : ThreadId) (n : ℕ) (o : Option Holder) → holder_left y (lowered_by n x o) ≡ option_map (λ l. l - owed_by y x n) (holder_left y o)
left-holder y x n o = grind (arith, nat_tests, same-id, apart-same, less-none)

pub left-taken : (y x : ThreadId) (n : ℕ) (row : Lockable) → left_of y (taken n x row) ≡ option_map (λ l. l - owed_by y x n) (left_of y row)
left-taken y x n row = left-holder y x n row.holder

pub within-taken : (y x : ThreadId) (n most : ℕ) (row : Lockable) → is_within y most (taken n x row) ≡ is_within_owed y most (owed_by y x n) row
within-taken y x n most row =
    within-one y most (lowered_by n x row.holder)
    ∙ ap (λ o. option_map_or (λ n. leb n most) o false) (left-taken y x n row)
    ∙ go (left_of y row)
  where
    go : (o : Option ℕ) → option_map_or (λ n. leb n most) (option_map (λ l. l - owed_by y x n) o) false ≡ option_map_or (λ l. leb (l - owed_by y x n) most) o false
    go None = refl
    go (Some l) = refl

less-joined : (k : ℕ) (a b : Option ℕ) → joined (option_map (λ n. n - k) a) (option_map (λ n. n - k) b) ≡ option_map (λ n. n - k) (joined a b)
less-joined k a b = grind (arith, nat_tests)

least-taken : (y x : ThreadId) (n : ℕ) (rows : List Lockable)
    → least (map (left_of y) (map (taken n x) rows)) ≡ option_map (λ l. l - owed_by y x n) (least (map (left_of y) rows))
least-taken y x n [] = refl
least-taken y x n (row ∷ rows) = grind (arith, nat_tests, left-taken, less-joined, least-taken y x n rows)

pub hold-taken : (y x : ThreadId) (n : ℕ) (rows : List Lockable) → hold_left y (map (taken n x) rows) ≡ hold_left y rows - owed_by y x n
hold-taken y x n rows = ap (λ o. option_map_or (λ n. n) o 0) (least-taken y x n rows) ∙ go (owed_by y x n) (least (map (left_of y) rows))
  where
    go : (k : ℕ) (o : Option ℕ) → option_map_or (λ n. n) (option_map (λ l. l - k) o) 0 ≡ option_map_or (λ n. n) o 0 - k
    go k None = omega arith
    go k (Some n) = refl

under-taken : (y x : ThreadId) (n j : ℕ) (row : Lockable) → left_under y j (taken n x row) ≡ left_under y j row - owed_by y x n
under-taken y x n j row =
    ap (λ o. option_map_or (λ l. if nat_le row.ceiling j then l else 0) o 0) (left-taken y x n row) ∙ go (owed_by y x n) (left_of y row)
  where
    go : (k : ℕ) (o : Option ℕ) → option_map_or (λ l. if nat_le row.ceiling j then l else 0) (option_map (λ l. l - k) o) 0
        ≡ option_map_or (λ l. if nat_le row.ceiling j then l else 0) o 0 - k
    go k None = omega arith
    go k (Some l) = elim (cases_Bool (nat_le row.ceiling j)) [ inl on ↦ rw on refl | inr off ↦ rw off (omega arith) ]

pub up_to-taken : (y x : ThreadId) (n j : ℕ) (rows : List Lockable) → left_up_to y j (map (taken n x) rows) ≡ left_up_to y j rows - owed_by y x n
up_to-taken y x n j [] = omega arith
up_to-taken y x n j (row ∷ rows) =
    ap (λ a. max a (left_up_to y j (map (taken n x) rows))) (under-taken y x n j row)
    ∙ ap (max (left_under y j row - owed_by y x n)) (up_to-taken y x n j rows)
    ∙ go (left_under y j row) (left_up_to y j rows) (owed_by y x n)
  where
    go : (a b k : ℕ) → max (a - k) (b - k) ≡ max a b - k
    go a b k = omega arith

-- a mutex that changes hands
pub given-taken : (n : ℕ) (x : ThreadId) (o : Option Holder) (m : ℕ) (rows : List Lockable)
    → map (taken n x) (given_to o m rows) ≡ given_to (lowered_by n x o) m (map (taken n x) rows)
given-taken n x o m [] = refl
given-taken n x o zero (row ∷ rows) = refl
given-taken n x o (suc m) (row ∷ rows) = grind (arith, nat_tests, given-further, given-taken n x o m rows)

-- what a debtor gets is stored with what it owes
pub lowered-back : (n : ℕ) (x : ThreadId) (h : Holder) → is_same h.thread x ≡ true → lowered_by n x (Some (record h { left = h.left + n })) ≡ Some h
lowered-back n x h same =
    let on : is_same x h.thread ≡ true = subst (λ t. is_same t h.thread ≡ true) (same-id h.thread x same) (same-self h.thread) in
    rw on (ap (λ l. Some (record h { left = l })) (back h.left n))
  where
    back : (l n : ℕ) → (l + n) - n ≡ l
    back l n = omega arith
