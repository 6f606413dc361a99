-- The rows of processes with another budget in one of them: what stays, and the sum of a level's budgets.
use Rattle.dk_plan.proofs.Names.{◌≡◌, sym, ap, refl, subst, ℕ, zero, suc, ◌+◌, ◌<◌, Bool, true, ◌||◌, List, [], ◌∷◌, length, take, get_or, sum_by, arith, ◌==◌, if◌then◌else◌, find, slice_get, Option, Some, list_any, option_map_or, sum_by-cons, eq-eqb, ProcessRow, rows_with_budget, budget_at, nat_tests}

-- a budget that counts where the level is the process's own
abbrev pub own_at : ℕ → ℕ → ℕ → ℕ
own_at own level budget = if own == level then budget else 0

none_at : (own level : ℕ) → own_at own level 0 ≡ 0
none_at own level = grind (arith, nat_tests)

pub own_here : (own level budget : ℕ) → own ≡ level → own_at own level budget ≡ budget
own_here own level budget h = ap (λ t. if t then budget else 0) (eq-eqb own level h)

pub own_elsewhere : (own level budget : ℕ) → (own ≡ level → ⊥) → own_at own level budget ≡ 0
own_elsewhere own level budget h = grind (arith, nat_tests)

-- the first, or what is found later
first_or : (read : ProcessRow → Bool) (found : Bool) (x y : ProcessRow) (o q : Option ProcessRow) → read x ≡ read y → option_map_or read o true ≡ option_map_or read q true
    → option_map_or read (if found then Some x else o) true ≡ option_map_or read (if found then Some y else q) true
first_or read found x y o q here later = grind (arith, nat_tests)

module _ (b : ℕ) where
  pub length-rows_with_budget : (rows : List ProcessRow) (p : ℕ) → length (rows_with_budget rows p b) ≡ length rows
  length-rows_with_budget [] p = refl
  length-rows_with_budget (row ∷ rows) zero = refl
  length-rows_with_budget (row ∷ rows) (suc p) = ap suc (length-rows_with_budget rows p)

  module _ (test : ProcessRow → Bool) (same : (row : ProcessRow) → test (record row { budget = b }) ≡ test row) where
    pub list_any-rows_with_budget : (rows : List ProcessRow) (p : ℕ) → list_any test (rows_with_budget rows p b) ≡ list_any test rows
    list_any-rows_with_budget [] p = refl
    list_any-rows_with_budget (row ∷ rows) zero = ap (λ t. t || list_any test rows) (same row)
    list_any-rows_with_budget (row ∷ rows) (suc p) = ap (λ t. test row || t) (list_any-rows_with_budget rows p)

    pub list_any-front : (rows : List ProcessRow) (p n : ℕ) → list_any test (take n (rows_with_budget rows p b)) ≡ list_any test (take n rows)
    list_any-front rows p zero = refl
    list_any-front [] p (suc n) = refl
    list_any-front (row ∷ rows) zero (suc n) = ap (λ t. t || list_any test (take n rows)) (same row)
    list_any-front (row ∷ rows) (suc p) (suc n) = ap (λ t. test row || t) (list_any-front rows p n)

    -- what is found, as far as the budget plays no part
    pub find-rows_with_budget : (read : ProcessRow → Bool) → ((row : ProcessRow) → read (record row { budget = b }) ≡ read row)
        → (rows : List ProcessRow) (p : ℕ) → option_map_or read (find test (rows_with_budget rows p b)) true ≡ option_map_or read (find test rows) true
    find-rows_with_budget read alike [] p = refl
    find-rows_with_budget read alike (row ∷ rows) zero = grind (arith, nat_tests)
    find-rows_with_budget read alike (row ∷ rows) (suc p) = grind (arith, nat_tests, find-rows_with_budget read alike rows p)

-- the level of the process of this number
abbrev pub level_of : List ProcessRow → ℕ → ℕ
level_of rows p = option_map_or (λ row. row.level) (slice_get rows p) 0

-- with a budget
pub budgets-with : (level b : ℕ) (rows : List ProcessRow) (p : ℕ) → p < length rows
    → sum_by (budget_at level) (rows_with_budget rows p b) ≡ sum_by (budget_at level) (rows_with_budget rows p 0) + own_at (level_of rows p) level b
budgets-with level b [] p inside = absurd (omega arith)
budgets-with level b (row ∷ rows) zero inside =
    let new = sum_by-cons (budget_at level) (record row { budget = b }) rows in
    let old = sum_by-cons (budget_at level) (record row { budget = 0 }) rows in
    let none = none_at row.level level in
    omega (arith, new, old, none)
budgets-with level b (row ∷ rows) (suc p) inside =
    let new = sum_by-cons (budget_at level) row (rows_with_budget rows p b) in
    let old = sum_by-cons (budget_at level) row (rows_with_budget rows p 0) in
    let rest = budgets-with level b rows p (omega arith) in
    omega (arith, new, old, rest)

-- without one
pub budgets-without : (level : ℕ) (rows : List ProcessRow) (p : ℕ) (own : ProcessRow) → p < length rows → own ≡ get_or rows p own
    → sum_by (budget_at level) (rows_with_budget rows p 0) + budget_at level own ≡ sum_by (budget_at level) rows
budgets-without level [] p own inside is = absurd (omega arith)
budgets-without level (row ∷ rows) zero own inside is =
    let new = sum_by-cons (budget_at level) (record row { budget = 0 }) rows in
    let old = sum_by-cons (budget_at level) row rows in
    let none = none_at row.level level in
    subst (λ o. sum_by (budget_at level) (record row { budget = 0 } ∷ rows) + budget_at level o ≡ sum_by (budget_at level) (row ∷ rows)) (sym is) (omega (arith, new, old, none))
budgets-without level (row ∷ rows) (suc p) own inside is =
    let new = sum_by-cons (budget_at level) row (rows_with_budget rows p 0) in
    let old = sum_by-cons (budget_at level) row rows in
    let rest = budgets-without level rows p own (omega arith) is in
    omega (arith, new, old, rest)
