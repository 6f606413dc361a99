-- Rows that are gone through one by one, and lists that are seen as others.
use Rattle.std.proofs.Common.{ℕ, suc, ◌≡◌, ◌<◌, ◌≤◌, ◌+◌, ◌∙◌, List, [], ◌∷◌, ◌++◌, length, get_or, drop, map, refl, ap, sym, add-one, append_assoc, append-nil}
use Rattle.std.proofs.lemmas.List.{drop_more, length-map}
use Rattle.std.proofs.lemmas.List.Folds.{list_all-map}
use Rattle.std.proofs.Math.ListN.{drop_of_length-le}
use Rattle.dk_needs.specs.Shape.{from_row}

pub ruleset mapped = (list_all-map, length-map)

-- the row at i, and then those after it
from_row-drop : {R X : Type 0} (f : ℕ → R → List X) (rows : List R) (i : ℕ) (d : R) → i < length rows
    → from_row f i (drop i rows) ≡ f i (get_or rows i d) ++ from_row f (i + 1) (drop (i + 1) rows)
from_row-drop f rows i d h = rw (drop_more rows i d h, add-one) refl

-- one row of the way through the rows
pub row_more : {R X : Type 0} (f : ℕ → R → List X) (rows : List R) (i : ℕ) (row : R) (a b z more : List X)
    → i < length rows → row ≡ get_or rows i row → more ≡ f i row → b ≡ a ++ more
    → a ++ from_row f i (drop i rows) ≡ z → b ++ from_row f (i + 1) (drop (i + 1) rows) ≡ z
row_more f rows i row a b z more inside is_row gives added before =
    let rest = from_row f (i + 1) (drop (i + 1) rows) in
    ap (λ xs. xs ++ rest) added ∙ append_assoc a more rest
    ∙ ap (λ xs. a ++ (xs ++ rest)) (gives ∙ ap (f i) is_row)
    ∙ ap (λ xs. a ++ xs) (sym (from_row-drop f rows i row inside)) ∙ before

-- and its end
pub rows_done : {R X : Type 0} (f : ℕ → R → List X) (rows : List R) (i : ℕ) (a z : List X) → length rows ≤ i
    → a ++ from_row f i (drop i rows) ≡ z → a ≡ z
rows_done f rows i a z past before =
    sym (append-nil a) ∙ ap (λ xs. a ++ from_row f i xs) (sym (drop_of_length-le rows past)) ∙ before

pub from_row-map : {A B X : Type 0} (g : A → B) (f : ℕ → B → List X) (i : ℕ) (xs : List A)
    → from_row f i (map g xs) ≡ from_row (λ k x. f k (g x)) i xs
from_row-map g f i [] = refl
from_row-map g f i (x ∷ xs) = ap (λ rest. f i (g x) ++ rest) (from_row-map g f (suc i) xs)
