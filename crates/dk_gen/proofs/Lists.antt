-- Rows that are told by their numbers: their tests, searches and counts.
use Rattle.std.proofs.Common.{add-one, zero-add, ◌++◌, ◌≡◌, ◌∙◌, ◌<◌, ◌≤◌, ◌+◌, ◌⊎◌, inl, inr, ℕ, zero, suc, Bool, true, false, ◌||◌, List, [], ◌∷◌, take, map, arith, refl, ap}
use Rattle.std.proofs.lemmas.Bool.{or_from, or_right}
use Rattle.std.specs.Prelude.{None}
use Rattle.std.specs.List.{list_any}
use Rattle.std.specs.Str.{bytes_eq}
use Rattle.dk_config.specs.Sums.{numbers}
use Rattle.dk_config.specs.Tests.{Test, first_broken, each_row}
use Rattle.dk_config.specs.Rules.{has_twice}
use Rattle.dk_config.proofs.Counting.{map-numbers-more}
use Rattle.dk_config.proofs.FirstBroken.{append_none}

-- one row more
pub rows_more : {A : Type 0} (f : ℕ → A) (n : ℕ) → map f (numbers 0 (n + 1)) ≡ map f (numbers 0 n) ++ f n ∷ []
rows_more f n =
    let here : f (0 + n) ≡ f n = ap f (zero-add n) in
    ap (λ k. map f (numbers 0 k)) (add-one n) ∙ map-numbers-more f 0 n ∙ ap (λ x. map f (numbers 0 n) ++ x ∷ []) here

here_or_later : (low k : ℕ) → low ≤ k → (low ≡ k) ⊎ (suc low ≤ k)
here_or_later low k h = grind arith

-- where the tests of each row pass, those of all rows do
pub rows_pass : {A : Type 0} (tests : ℕ → A → List Test) (f : ℕ → A) (low n : ℕ) → ((k : ℕ) → k < low + n → first_broken (tests k (f k)) ≡ None)
    → first_broken (each_row tests low (map f (numbers low n))) ≡ None
rows_pass tests f low zero each = refl
rows_pass tests f low (suc n) each =
    append_none (tests low (f low)) _ (each low (omega arith)) ∙ rows_pass tests f (suc low) n (λ k below. each k (omega arith))

-- no row passes a test that each fails
pub none_of_rows : {A : Type 0} (test : A → Bool) (f : ℕ → A) (low n : ℕ) → ((k : ℕ) → low ≤ k → k < low + n → test (f k) ≡ false)
    → list_any test (map f (numbers low n)) ≡ false
none_of_rows test f low zero each = refl
none_of_rows test f low (suc n) each =
    or_from (test (f low)) _ (each low (omega arith) (omega arith)) (none_of_rows test f (suc low) n (λ k above below. each k (omega arith) (omega arith)))

-- and none of the first i rows, where each of these fails
pub none_before : {A : Type 0} (test : A → Bool) (f : ℕ → A) (low n i : ℕ) → ((k : ℕ) → low ≤ k → k < low + i → test (f k) ≡ false)
    → list_any test (take i (map f (numbers low n))) ≡ false
none_before test f low n zero each = refl
none_before test f low zero (suc i) each = refl
none_before test f low (suc n) (suc i) each =
    or_from (test (f low)) _ (each low (omega arith) (omega arith)) (none_before test f (suc low) n i (λ k above below. each k (omega arith) (omega arith)))

-- some row passes a test that row k passes
pub one_of_rows : {A : Type 0} (test : A → Bool) (f : ℕ → A) (low n k : ℕ) → low ≤ k → k < low + n → test (f k) ≡ true
    → list_any test (map f (numbers low n)) ≡ true
one_of_rows test f low zero k above below there = absurd (omega arith)
one_of_rows test f low (suc n) k above below there =
    elim (here_or_later low k above) [
      | inl same ↦ ap (λ x. x || list_any test (map f (numbers (suc low) n))) (ap (λ j. test (f j)) same ∙ there)
      | inr later ↦ or_right (test (f low)) _ (one_of_rows test f (suc low) n k later (omega arith) there)
    ]

-- no name twice, where no two rows have one name
pub none_twice : (g : ℕ → List ℕ) (low n : ℕ) → ((j k : ℕ) → j < k → k < low + n → bytes_eq (g j) (g k) ≡ false) → has_twice (map g (numbers low n)) ≡ false
none_twice g low zero differ = refl
none_twice g low (suc n) differ =
    or_from _ _ (none_of_rows (bytes_eq (g low)) g (suc low) n (λ k above below. differ low k (omega arith) (omega arith)))
    (none_twice g (suc low) n (λ j k before below. differ j k before (omega arith)))
