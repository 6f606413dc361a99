-- What a file has left after several reads.
use Rattle.std.proofs.Common.{◌≡◌, ◌≤◌, ℕ, List, [], ◌++◌, append-nil, append_assoc, length, refl, sym, ap, take, take_all, ◌∙◌}
use Rattle.std.specs.Prelude.{Option, Some, None, IfSome}
use Rattle.std.specs.Io.KnownBytes.{Consumes, IsAtEnd}
use Rattle.std.proofs.Math.Seq.{take-append_seam}

pub nothing_read : (left : Option (List ℕ)) → Consumes left left []
nothing_read None = tt
nothing_read (Some file) = refl

-- what two reads give was left together
pub read_more : (a b c : Option (List ℕ)) (xs ys : List ℕ) → Consumes a b xs → Consumes b c ys → Consumes a c (xs ++ ys)
read_more None b c xs ys first second = tt
read_more (Some w) None c xs ys first second = absurd first
read_more (Some w) (Some v) None xs ys first second = absurd second
read_more (Some w) (Some v) (Some u) xs ys first second = first ∙ ap (λ (t : List ℕ). xs ++ t) second ∙ sym (append_assoc xs ys u)

-- nothing is left: that is all
pub all_read : (a c : Option (List ℕ)) (xs : List ℕ) (most : ℕ) → length xs ≤ most → Consumes a c xs → IsAtEnd c
    → IfSome a (λ file. xs ≡ take most file)
all_read None c xs most fits read end = tt
all_read (Some w) None xs most fits read end = absurd read
all_read (Some w) (Some u) xs most fits read end =
    let whole : w ≡ xs = read ∙ ap (λ (t : List ℕ). xs ++ t) end ∙ append-nil xs in
    sym (ap (λ (t : List ℕ). take most t) whole ∙ take_all most xs fits)

-- there are as many as were asked for
pub most_read : (a c : Option (List ℕ)) (xs : List ℕ) (most : ℕ) → length xs ≡ most → Consumes a c xs → IfSome a (λ file. xs ≡ take most file)
most_read None c xs most full read = tt
most_read (Some w) None xs most full read = absurd read
most_read (Some w) (Some u) xs most full read =
    sym (ap (λ (t : List ℕ). take most t) read ∙ ap (λ (k : ℕ). take k (xs ++ u)) (sym full) ∙ take-append_seam xs u)
