-- The rows of processes with every budget grown: what stays, and what becomes more.
use Rattle.std.proofs.Common.{◌≡◌, ◌∙◌, ap, refl, ℕ, zero, suc, ◌≤◌, Bool, true, false, ◌||◌, List, [], ◌∷◌, take, sum_by, arith}
use Rattle.std.specs.Prelude.{find, if◌then◌else◌, ◌==◌, map, Option, Some}
use Rattle.std.specs.List.{list_any}
use Rattle.std.specs.Option.{option_map_or}
use Rattle.std.proofs.Math.Nat.{mul-le-mul_left}
use Rattle.std.proofs.lemmas.List.Sums.{sum_by-cons, sum_by-le-sum_by}
use Rattle.dk_config.specs.declared.rows.ProcessRow.{ProcessRow}
use Rattle.dk_growth.specs.Growth.{grown_budget, grown_row, grown_at}

pub grown-more : (p q b : ℕ) → p ≤ q → grown_budget p b ≤ grown_budget q b
grown-more p q b h = let more = mul-le-mul_left b h in omega (arith, more)

-- by no percent a budget doesn't grow
grown-none : (b : ℕ) → grown_budget 0 b ≡ b
grown-none b = omega arith

pub rows-none : (rows : List ProcessRow) → map (grown_row 0) rows ≡ rows
rows-none [] = refl
rows-none (row ∷ rows) = ap (λ r. r ∷ map (grown_row 0) rows) (ap (λ b. record row { budget = b }) (grown-none row.budget)) ∙ ap (λ rs. row ∷ rs) (rows-none rows)

-- the first, or what is found later
first_or : (read : ProcessRow → Bool) (found : Bool) (x y : ProcessRow) (o q : Option ProcessRow) → read x ≡ read y → option_map_or read o true ≡ option_map_or read q true
    → option_map_or read (if found then Some x else o) true ≡ option_map_or read (if found then Some y else q) true
first_or read true x y o q here later = here
first_or read false x y o q here later = later

module _ (p : ℕ) where
  module _ (test : ProcessRow → Bool) (same : (row : ProcessRow) → test (grown_row p row) ≡ test row) where
    pub list_any-grown : (rows : List ProcessRow) → list_any test (map (grown_row p) rows) ≡ list_any test rows
    list_any-grown [] = refl
    list_any-grown (row ∷ rows) = ap (λ t. t || list_any test (map (grown_row p) rows)) (same row) ∙ ap (λ t. test row || t) (list_any-grown rows)

    pub list_any-front : (rows : List ProcessRow) (n : ℕ) → list_any test (take n (map (grown_row p) rows)) ≡ list_any test (take n rows)
    list_any-front rows zero = refl
    list_any-front [] (suc n) = refl
    list_any-front (row ∷ rows) (suc n) = ap (λ t. t || list_any test (take n (map (grown_row p) rows))) (same row) ∙ ap (λ t. test row || t) (list_any-front rows n)

    -- what is found, as far as the budget plays no part
    pub find-grown : (read : ProcessRow → Bool) → ((row : ProcessRow) → read (grown_row p row) ≡ read row)
        → (rows : List ProcessRow) → option_map_or read (find test (map (grown_row p) rows)) true ≡ option_map_or read (find test rows) true
    find-grown read alike [] = refl
    find-grown read alike (row ∷ rows) =
        ap (λ t. option_map_or read (if t then Some (grown_row p row) else find test (map (grown_row p) rows)) true) (same row)
        ∙ first_or read (test row) (grown_row p row) row (find test (map (grown_row p) rows)) (find test rows) (alike row) (find-grown read alike rows)

  -- the budgets of a level
  pub budgets-grown : (level : ℕ) (rows : List ProcessRow) → sum_by (λ row. if row.level == level then row.budget else 0) (map (grown_row p) rows) ≡ sum_by (grown_at p level) rows
  budgets-grown level [] = refl
  budgets-grown level (row ∷ rows) =
      let new = sum_by-cons (λ r. if r.level == level then r.budget else 0) (grown_row p row) (map (grown_row p) rows) in
      let old = sum_by-cons (grown_at p level) row rows in
      let rest = budgets-grown level rows in
      omega (arith, new, old, rest)

at_most : (b : Bool) (n m : ℕ) → n ≤ m → (if b then n else 0) ≤ (if b then m else 0)
at_most true n m h = h
at_most false n m h = omega arith

pub budgets-more : (p q level : ℕ) (rows : List ProcessRow) → p ≤ q → sum_by (grown_at p level) rows ≤ sum_by (grown_at q level) rows
budgets-more p q level rows h =
    sum_by-le-sum_by (grown_at p level) (grown_at q level) rows (λ row. at_most (row.level == level) (grown_budget p row.budget) (grown_budget q row.budget) (grown-more p q row.budget h))
