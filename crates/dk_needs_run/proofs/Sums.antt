-- Numbers that are summed up to the last value.
use Rattle.std.proofs.Common.{ℕ, ◌≡◌, ◌+◌, ◌<◌, ◌∙◌, ap, arith, List, [], ◌∷◌, length, get_or, take}
use Rattle.std.specs.Prelude.{min, sum_by}
use Rattle.std.proofs.lemmas.List.{take_more}
use Rattle.std.proofs.lemmas.List.Sums.{sum_by-cons, sum_by-append}

-- one more
pub sum_more : {X : Type 0} (f : X → ℕ) (xs : List X) (i : ℕ) (d : X) (sum : ℕ) → i < length xs → sum ≡ min (sum_by f (take i xs)) 4294967295
    → min (sum + f (get_or xs i d)) 4294967295 ≡ min (sum_by f (take (i + 1) xs)) 4294967295
sum_more f xs i d sum there before =
    let x = get_or xs i d in
    let all = ap (sum_by f) (take_more xs i d there) ∙ sum_by-append f (take i xs) (x ∷ []) in
    let one = sum_by-cons f x [] in
    omega (arith, all, one, before)
