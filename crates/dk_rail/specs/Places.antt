-- How the numbers of a block stand in its places.
use Rattle.std.specs.Prelude.{◌≡◌, ℕ, List, map, length, Option, Some, unwrap_or}
use denote.RawPtr.{Ptr}

-- the numbers in the places
abbrev pub numbers : List (Option ℕ) → List ℕ
numbers places = map (λ place. unwrap_or place 0) places

-- the places at a pointer are filled, and the deed for this many of them is kept
pub record IsBlock (base at deed_at : Ptr) (places : List (Option ℕ)) (count deed_count : ℕ) : Type 0 where
  pub cells : at ≡ base
  pub deed : deed_at ≡ base
  pub filled : map Some (numbers places) ≡ places
  pub many : length places ≡ count
  pub owed : deed_count ≡ count
