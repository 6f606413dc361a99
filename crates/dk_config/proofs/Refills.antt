-- What a vector has once its slice is written back.
use Rattle.std.proofs.Common.{◌≡◌, ◌≤◌, ◌∙◌, ◌++◌, List, length, take, ap, arith}
use Rattle.std.specs.List.{refill}
use Rattle.std.proofs.Math.ListN.{drop_of_length-le}
use Rattle.std.proofs.lemmas.List.{take_all, append-nil}

-- as many items as there were are all that it has
pub refill-whole : {A : Type 0} (xs ws : List A) → length ws ≡ length xs → refill (length xs) xs ws ≡ ws
refill-whole xs ws same =
    let fits : length ws ≤ length xs = omega arith in
    let past : length xs ≤ length ws = omega arith in
    ap (λ rest. take (length xs) (ws ++ rest)) (drop_of_length-le xs past)
    ∙ ap (take (length xs)) (append-nil ws)
    ∙ take_all (length xs) ws fits
