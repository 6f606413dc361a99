-- Lists that are added one by one, one for each number from 0 on.
use Rattle.std.proofs.Common.{◌≡◌, ◌∙◌, ◌+◌, ◌++◌, [], ℕ, zero, suc, List, refl, ap, sym, arith, append_assoc}
use Rattle.std.specs.Prelude.{flat_map}
use Rattle.std.proofs.lemmas.List.{append-nil}
use Rattle.dk_config.specs.Sums.{numbers, below}

module _ {A : Type 0} where
  more-from : (f : ℕ → List A) (low n : ℕ) → flat_map f (numbers low (suc n)) ≡ flat_map f (numbers low n) ++ f (low + n)
  more-from f low zero = append-nil (f low) ∙ ap f (omega arith)
  more-from f low (suc n) =
      let next : suc low + n ≡ low + suc n = omega arith in
      let rest = flat_map f (numbers (suc low) n) in
      ap (λ t. f low ++ t) (more-from f (suc low) n ∙ ap (λ k. rest ++ f k) next) ∙ sym (append_assoc (f low) rest (f (low + suc n)))

  one_more : (f : ℕ → List A) (i : ℕ) → flat_map f (below (i + 1)) ≡ flat_map f (below i) ++ f i
  one_more f i =
      let up : i + 1 ≡ suc i = omega arith in
      let same : 0 + i ≡ i = omega arith in
      ap (λ k. flat_map f (below k)) up ∙ more-from f 0 i ∙ ap (λ k. flat_map f (below i) ++ f k) same

  -- the list of the next number was added
  pub each_added : (f : ℕ → List A) (n : ℕ) (old between new line : List A) → line ≡ f n → new ≡ between ++ line
      → between ≡ old ++ flat_map f (below n) → new ≡ old ++ flat_map f (below (n + 1))
  each_added f n old between new line is more so_far =
      more ∙ ap (λ t. t ++ line) so_far ∙ append_assoc old (flat_map f (below n)) line
      ∙ ap (λ t. old ++ (flat_map f (below n) ++ t)) is ∙ ap (λ t. old ++ t) (sym (one_more f n))

  -- numbers that add nothing
  pub none_added : (f : ℕ → List A) → ((k : ℕ) → f k ≡ []) → (low n : ℕ) → flat_map f (numbers low n) ≡ []
  none_added f none low zero = refl
  none_added f none low (suc n) = ap (λ t. t ++ flat_map f (numbers (suc low) n)) (none low) ∙ none_added f none (suc low) n

  pub same_added : (f g : ℕ → List A) → ((k : ℕ) → f k ≡ g k) → (low n : ℕ) → flat_map f (numbers low n) ≡ flat_map g (numbers low n)
  same_added f g same low zero = refl
  same_added f g same low (suc n) =
      ap (λ t. t ++ flat_map f (numbers (suc low) n)) (same low) ∙ ap (λ t. g low ++ t) (same_added f g same (suc low) n)
