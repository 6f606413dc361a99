-- Lists of numbers' images, and lists of which one item is set.
use Rattle.dk_ready.proofs.Names.{◌≡◌, ◌<◌, ◌+◌, ◌∙◌, ℕ, zero, suc, true, false, eqb, List, [], ◌∷◌, ◌++◌, length, map, get_or, set, Some, refl, ap, arith, slice_get, nat_tests, numbers}

pub map-same : {A : Type 0} (f g : ℕ → A) (low n : ℕ) → ((j : ℕ) → j < low + n → f j ≡ g j) → map f (numbers low n) ≡ map g (numbers low n)
map-same f g low zero same = refl
map-same f g low (suc n) same = rw (same low (omega arith), map-same f g (suc low) n (λ j h. same j (omega arith))) refl

-- rows as what stands at each number
pub rows-places : {A B : Type 0} (f : A → B) (g : ℕ → B) (xs : List A) (low : ℕ) → ((j : ℕ) (x : A) → slice_get xs j ≡ Some x → f x ≡ g (low + j)) → map f xs ≡ map g (numbers low (length xs))
rows-places f g [] low same = refl
rows-places f g (x ∷ xs) low same =
    let here : f x ≡ g low = same 0 x refl ∙ ap g (omega arith) in
    rw (here, rows-places f g xs (suc low) (λ j y at. same (suc j) y at ∙ ap g (omega arith))) refl

-- numbers, one more at the end
pub numbers-more : (low n : ℕ) → numbers low (suc n) ≡ numbers low n ++ (low + n) ∷ []
numbers-more low zero = ap (λ k. k ∷ []) (omega arith)
numbers-more low (suc n) =
    ap (λ rest. low ∷ rest) (numbers-more (suc low) n ∙ ap (λ last. numbers (suc low) n ++ last ∷ []) (omega arith))

pub set-other : {A : Type 0} (xs : List A) (i j : ℕ) (x d : A) → eqb i j ≡ false → get_or (set xs i x) j d ≡ get_or xs j d
set-other [] i j x d off = refl
set-other (y ∷ xs) zero zero x d off = let on : eqb 0 0 ≡ true = grind (arith, nat_tests) in absurd (cc)
set-other (y ∷ xs) zero (suc j) x d off = refl
set-other (y ∷ xs) (suc i) zero x d off = refl
set-other (y ∷ xs) (suc i) (suc j) x d off = set-other xs i j x d (let off' : eqb i j ≡ false = grind (arith, nat_tests) in off')

-- one item of a list of numbers' images is changed
pub set-numbers : {A : Type 0} (f g : ℕ → A) (low n k : ℕ) (v : A) → k < n → v ≡ g (low + k) → ((j : ℕ) → eqb j k ≡ false → f (low + j) ≡ g (low + j))
    → set (map f (numbers low n)) k v ≡ map g (numbers low n)
set-numbers f g low zero k v known is other = absurd (omega arith)
set-numbers f g low (suc n) zero v known is other =
    rw (
      is,
      rest (suc low) n (λ j. (let off : eqb (suc j) 0 ≡ false = grind (arith, nat_tests) in
          ap f (omega arith) ∙ other (suc j) off ∙ ap g (omega arith))),
    ) (ap (λ x. x ∷ map g (numbers (suc low) n)) (ap g (omega arith)))
  where
    rest : (from m : ℕ) → ((j : ℕ) → f (from + j) ≡ g (from + j)) → map f (numbers from m) ≡ map g (numbers from m)
    rest from zero same = refl
    rest from (suc m) same =
        let here : f from ≡ g from = ap f (omega arith) ∙ same 0 ∙ ap g (omega arith) in
        rw (here, rest (suc from) m (λ j. ap f (omega arith) ∙ same (suc j) ∙ ap g (omega arith))) refl
set-numbers f g low (suc n) (suc k) v known is other =
    let off : eqb 0 (suc k) ≡ false = grind (arith, nat_tests) in
    let here : f low ≡ g low = ap f (omega arith) ∙ other 0 off ∙ ap g (omega arith) in
    let rest = set-numbers f g (suc low) n k v (omega arith) (is ∙ ap g (omega arith))
    (λ j h. (let off' : eqb (suc j) (suc k) ≡ false = grind (arith, nat_tests) in ap f (omega arith) ∙ other (suc j) off' ∙ ap g (omega arith))) in
    rw (here, rest) refl
