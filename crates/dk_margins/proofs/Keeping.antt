-- Tests that pass where other tests pass.
use Rattle.dk_margins.proofs.Names.{◌≡◌, refl, subst, ℕ, suc, ◌+◌, List, [], ◌∷◌, ◌++◌, arith, None, Some, slice_get, Test, first_broken, each_row, both_pass, parts_pass}

-- where the first tests pass, the second do
abbrev pub Keeps : List Test → List Test → Type 0
Keeps ts us = first_broken ts ≡ None → first_broken us ≡ None

pub keeps_both : (ts us vs ws : List Test) → Keeps ts us → Keeps vs ws → Keeps (ts ++ vs) (us ++ ws)
keeps_both ts us vs ws first second h = let both = parts_pass ts vs h in both_pass us ws (first both.0) (second both.1)

pub keeps_same : (ts us : List Test) → ts ≡ us → Keeps ts us
keeps_same ts us same h = subst (λ vs. first_broken vs ≡ None) same h

-- the tests of all rows pass where those of each row do
pub each_passes : {R : Type 0} (tests : ℕ → R → List Test) (i : ℕ) (rows : List R)
    → ((k : ℕ) (row : R) → slice_get rows k ≡ Some row → first_broken (tests (i + k) row) ≡ None) → first_broken (each_row tests i rows) ≡ None
each_passes tests i [] each = refl
each_passes tests i (row ∷ rows) each =
    both_pass (tests i row) (each_row tests (suc i) rows)
    (let same : i + 0 ≡ i = omega arith in subst (λ n. first_broken (tests n row) ≡ None) same (each 0 row refl))
    (each_passes tests (suc i) rows (λ k later is.
    (let same : i + suc k ≡ suc i + k = omega arith in subst (λ n. first_broken (tests n later) ≡ None) same (each (suc k) later is))))
