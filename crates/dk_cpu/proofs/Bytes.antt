-- The bytes of an instruction, read one by one.
use Rattle.std.proofs.Common.{arith, ◌≡◌, ◌∙◌, ◌+◌, ◌-◌, ◌<◌, ◌≤◌, ℕ, List, [], ◌∷◌, length, get_or, take, drop, refl, ap, sym}
use Rattle.std.specs.Prelude.{slice_range}
use Rattle.std.proofs.lemmas.List.{drop_more}

-- what is from a place on, and from the next one
from : (code : List ℕ) (i j : ℕ) → i < length code → j ≡ i + 1 → drop i code ≡ get_or code i 0 ∷ drop j code
from code i j inside next = drop_more code i 0 inside ∙ ap (λ k. get_or code i 0 ∷ drop k code) (sym next)

first-four : (a b c d : ℕ) (rest : List ℕ) → a ∷ b ∷ c ∷ d ∷ [] ≡ take 4 (a ∷ b ∷ c ∷ d ∷ rest)
first-four a b c d rest = refl

pub four-bytes : (code : List ℕ) (at : ℕ) → at + 4 ≤ length code
    → get_or code at 0 ∷ get_or code (at + 1) 0 ∷ get_or code (at + 2) 0 ∷ get_or code (at + 3) 0 ∷ [] ≡ slice_range code at (at + 4)
four-bytes code at within =
    let few : 4 ≡ at + 4 - at = omega arith in
    let behind = from code (at + 3) (at + 4) (omega (arith, within)) (omega arith) in
    let third = from code (at + 2) (at + 3) (omega (arith, within)) (omega arith) ∙ ap (λ l. get_or code (at + 2) 0 ∷ l) behind in
    let second = from code (at + 1) (at + 2) (omega (arith, within)) (omega arith) ∙ ap (λ l. get_or code (at + 1) 0 ∷ l) third in
    let all = from code at (at + 1) (omega (arith, within)) (omega arith) ∙ ap (λ l. get_or code at 0 ∷ l) second in
    first-four (get_or code at 0) (get_or code (at + 1) 0) (get_or code (at + 2) 0) (get_or code (at + 3) 0) (drop (at + 4) code)
    ∙ ap (take 4) (sym all)
    ∙ ap (λ n. take n (drop at code)) few
