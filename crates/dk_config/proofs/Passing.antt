-- What a list of tests says of a configuration where none of them fails.
use Rattle.std.proofs.Common.{◌≡◌, ◌<◌, ◌≤◌, ◌+◌, ℕ, zero, suc, true, false, List, [], ◌∷◌, ◌++◌, length, arith, refl, subst}
use Rattle.std.specs.Prelude.{Option, Some, None, slice_get}
use Rattle.std.specs.Option.{option_map_or}
use Rattle.dk_config.specs.Tests.{Test, first_broken, each_row}

-- where two lists of tests pass together, each passes
pub parts_pass : (ts us : List Test) → first_broken (ts ++ us) ≡ None → (first_broken ts ≡ None) × (first_broken us ≡ None)
parts_pass [] us h = (refl, h)
parts_pass ((f, true) ∷ ts) us h = absurd (cc)
parts_pass ((f, false) ∷ ts) us h = parts_pass ts us h

pub both_pass : (ts us : List Test) → first_broken ts ≡ None → first_broken us ≡ None → first_broken (ts ++ us) ≡ None
both_pass [] us h k = k
both_pass ((f, true) ∷ ts) us h k = absurd (cc)
both_pass ((f, false) ∷ ts) us h k = both_pass ts us h k

-- where the tests of all rows pass, those of each row pass
pub row_passes : {R : Type 0} (tests : ℕ → R → List Test) (i : ℕ) (rows : List R) (k : ℕ) (row : R)
    → first_broken (each_row tests i rows) ≡ None → slice_get rows k ≡ Some row → first_broken (tests (i + k) row) ≡ None
row_passes tests i [] k row h is = absurd (cc)
row_passes tests i (first ∷ rows) zero row h is =
    let here = (parts_pass (tests i first) (each_row tests (suc i) rows) h).0 in
    let same : i ≡ i + 0 = omega arith in
    let row_is : first ≡ row = cc in
    subst (λ n. first_broken (tests n row) ≡ None) same (subst (λ r. first_broken (tests i r) ≡ None) row_is here)
row_passes tests i (first ∷ rows) (suc k) row h is =
    let later = (parts_pass (tests i first) (each_row tests (suc i) rows) h).1 in
    let same : suc i + k ≡ i + suc k = omega arith in
    subst (λ n. first_broken (tests n row) ≡ None) same (row_passes tests (suc i) rows k row later is)

-- a row that is there
pub row_at : {R : Type 0} (rows : List R) (k : ℕ) → k < length rows → (row : R) × (slice_get rows k ≡ Some row)
row_at [] k below = absurd (omega arith)
row_at (row ∷ rows) zero below = (row, refl)
row_at (row ∷ rows) (suc k) below = row_at rows k (omega arith)

-- a number of each row is at most a limit, and 0 where there is no row
pub within : {R : Type 0} (f : R → ℕ) (rows : List R) (most : ℕ) → ((k : ℕ) (row : R) → slice_get rows k ≡ Some row → f row ≤ most)
    → (k : ℕ) → option_map_or f (slice_get rows k) 0 ≤ most
within f rows most each k = go (slice_get rows k) refl
  where
    go : (o : Option _) → slice_get rows k ≡ o → option_map_or f o 0 ≤ most
    go (Some row) is = each k row is
    go None is = omega arith
