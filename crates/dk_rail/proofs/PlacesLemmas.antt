-- What a read and a write of one place are to the numbers of a block.
use Rattle.dk_rail.proofs.Names.{◌≡◌, ℕ, zero, suc, ◌<◌, List, map, length, get_or, set, replicate, slice_index, Option, Some, refl, sym, ap, ◌∙◌, arith, ext_get_or, get_or-map, map-set, get_or-replicate, length-replicate, unwrap_or, numbers}
use Rattle.std.proofs.Common.{◌∷◌, None}

map-replicate : {A B : Type 0} (f : A → B) (n : ℕ) (x : A) → map f (replicate n x) ≡ replicate n (f x)
map-replicate f zero x = refl
map-replicate {B = B} f (suc n) x = ap (λ (ys : List B). f x ∷ ys) (map-replicate f n x)

module _ (places : List (Option ℕ)) (filled : map Some (numbers places) ≡ places) (i : ℕ) where
  pub number_at : i < length (numbers places) → get_or places i None ≡ Some (slice_index (numbers places) i)
  number_at inside = ap (λ (ps : List (Option ℕ)). get_or ps i None) (sym filled) ∙ get_or-map (λ (x : ℕ). Some x) (numbers places) i 0 None inside

  pub numbers-set : (x : ℕ) → numbers (set places i (Some x)) ≡ set (numbers places) i x
  numbers-set x = map-set (λ (place : Option ℕ). unwrap_or place 0) places i (Some x)

  pub filled-set : (x : ℕ) → map Some (numbers (set places i (Some x))) ≡ set places i (Some x)
  filled-set x = ap (λ (ns : List ℕ). map Some ns) (numbers-set x) ∙ map-set (λ (n : ℕ). Some n) (numbers places) i x ∙ ap (λ (ps : List (Option ℕ)). set ps i (Some x)) filled

-- places that each hold 0
pub all_zero : (places : List (Option ℕ)) (count : ℕ) → length places ≡ count → ((i : ℕ) → i < count → get_or places i None ≡ Some 0) → places ≡ replicate count (Some 0)
all_zero places count many each = ext_get_or None places (replicate count (Some 0)) (many ∙ sym (length-replicate count (Some 0))) (λ i inside.
    each i (omega arith) ∙ sym (get_or-replicate count i (Some 0) None (omega arith)))

pub numbers-zero : (places : List (Option ℕ)) (count : ℕ) → places ≡ replicate count (Some 0) → numbers places ≡ replicate count 0
numbers-zero places count e = ap numbers e ∙ map-replicate (λ (place : Option ℕ). unwrap_or place 0) count (Some 0)

pub filled-zero : (places : List (Option ℕ)) (count : ℕ) → places ≡ replicate count (Some 0) → map Some (numbers places) ≡ places
filled-zero places count e = ap (λ (ns : List ℕ). map Some ns) (numbers-zero places count e) ∙ map-replicate (λ (n : ℕ). Some n) count 0 ∙ sym e
