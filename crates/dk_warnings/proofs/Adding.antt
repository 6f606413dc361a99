-- What is added to a list one by one, for each number from 0 on.
use Rattle.dk_warnings.proofs.Names.{◌≡◌, ◌∙◌, ◌+◌, ◌++◌, ℕ, zero, suc, List, ap, sym, arith, append_assoc, append-nil, numbers, below, nat_tests}
use Rattle.std.specs.Prelude.{flat_map}

more-from : {A : Type 0} (f : ℕ → List A) (low n : ℕ) → flat_map f (numbers low (suc n)) ≡ flat_map f (numbers low n) ++ f (low + n)
more-from f low zero = append-nil (f low) ∙ ap f (omega arith)
more-from f low (suc n) =
    let next : suc low + n ≡ low + suc n = omega arith in
    let rest = flat_map f (numbers (suc low) n) in
    ap (λ t. f low ++ t) (more-from f (suc low) n ∙ ap (λ k. rest ++ f k) next) ∙ sym (append_assoc (f low) rest (f (low + suc n)))

one_more : {A : Type 0} (f : ℕ → List A) (i : ℕ) → flat_map f (below (i + 1)) ≡ flat_map f (below i) ++ f i
one_more f i = grind (arith, nat_tests, more-from)

-- what the next number stands for was added
pub each_added : {A : Type 0} (f : ℕ → List A) (n : ℕ) (old between new : List A) → new ≡ between ++ f n
    → between ≡ old ++ flat_map f (below n) → new ≡ old ++ flat_map f (below (n + 1))
each_added f n old between new more so_far =
    more ∙ ap (λ t. t ++ f n) so_far ∙ append_assoc old (flat_map f (below n)) (f n) ∙ ap (λ t. old ++ t) (sym (one_more f n))
