-- Lists and sums over the numbers from one number on.
use Rattle.std.proofs.Common.{◌≡◌, ◌∙◌, ◌<◌, ◌+◌, ℕ, zero, suc, [], ◌∷◌, ◌++◌, length, map, get_or, refl, ap, arith, ◌-◌, false, eqb, List}
use Rattle.std.proofs.lemmas.Bool.Decides.{nat_tests}
use Rattle.std.specs.Prelude.{Option, None, slice_set}
use Rattle.std.specs.Option.{option_or}
use Rattle.dk_config.specs.Sums.{numbers, sum_from, first_of, below}

pub length-numbers : (low n : ℕ) → length (numbers low n) ≡ n
length-numbers low zero = refl
length-numbers low (suc n) = ap suc (length-numbers (suc low) n)

pub length-map-numbers : {A : Type 0} (f : ℕ → A) (low n : ℕ) → length (map f (numbers low n)) ≡ n
length-map-numbers f low zero = refl
length-map-numbers f low (suc n) = ap suc (length-map-numbers f (suc low) n)

-- the item of a number
pub get_or-map-numbers : {A : Type 0} (f : ℕ → A) (low n k : ℕ) (d : A) → k < n → get_or (map f (numbers low n)) k d ≡ f (low + k)
get_or-map-numbers f low zero k d h = absurd (omega arith)
get_or-map-numbers f low (suc n) zero d h = ap f (omega arith)
get_or-map-numbers f low (suc n) (suc k) d h =
    let same : suc low + k ≡ low + suc k = omega arith in
    get_or-map-numbers f (suc low) n k d (omega arith) ∙ ap f same

-- one number more
pub map-numbers-more : {A : Type 0} (f : ℕ → A) (low n : ℕ) → map f (numbers low (suc n)) ≡ map f (numbers low n) ++ f (low + n) ∷ []
map-numbers-more f low zero = ap (λ k. f k ∷ []) (omega arith)
map-numbers-more f low (suc n) =
    let same : f (suc low + n) ≡ f (low + suc n) = ap f (omega arith) in
    ap (λ rest. f low ∷ rest) (map-numbers-more f (suc low) n ∙ ap (λ last. map f (numbers (suc low) n) ++ last ∷ []) same)

pub sum_from-more : (low n : ℕ) (f : ℕ → ℕ) → sum_from low (suc n) f ≡ sum_from low n f + f (low + n)
sum_from-more low zero f = grind arith
sum_from-more low (suc n) f =
    let rest = sum_from-more (suc low) n f in
    let same : f (suc low + n) ≡ f (low + suc n) = ap f (omega arith) in
    omega (arith, rest, same)

-- no number has an answer
pub first_of-none : (f : ℕ → Option ℕ) (low n : ℕ) → ((j : ℕ) → j < low + n → f j ≡ None) → first_of f (numbers low n) ≡ None
first_of-none f low zero h = refl
first_of-none f low (suc n) h =
    ap (λ o. let later = first_of f (numbers (suc low) n) in option_or o later) (h low (omega arith)) ∙ first_of-none f (suc low) n (λ j a. h j (omega arith))

pub at_index : {A : Type 0} (f : ℕ → A) (n i : ℕ) (d : A) → i < n → get_or (map f (below n)) i d ≡ f i
at_index f n i d h = get_or-map-numbers f 0 n i d h ∙ ap f (omega arith)

pub numbers-next : (p n : ℕ) → p < n → numbers p (n - p) ≡ p ∷ numbers (p + 1) (n - (p + 1))
numbers-next p n less =
    let e : n - p ≡ suc (n - (p + 1)) = omega arith in
    let next : suc p ≡ p + 1 = omega arith in
    ap (numbers p) e ∙ ap (λ q. p ∷ numbers q (n - (p + 1))) next

tail-same : {A : Type 0} (f f' : ℕ → A) (k low n : ℕ) → k < low → ((j : ℕ) → eqb j k ≡ false → f j ≡ f' j) → map f (numbers low n) ≡ map f' (numbers low n)
tail-same f f' k low zero above other = refl
tail-same f f' k low (suc n) above other =
    let off : eqb low k ≡ false = grind (arith, nat_tests) in
    let here = other low off in
    let rest = tail-same f f' k (suc low) n (omega arith) other in
    rw (here, rest) refl

set-from : {A : Type 0} (f f' : ℕ → A) (low n i : ℕ) (v : A) → i < n → v ≡ f' (low + i) → ((j : ℕ) → eqb j (low + i) ≡ false → f j ≡ f' j)
    → slice_set (map f (numbers low n)) i v ≡ map f' (numbers low n)
set-from f f' low zero i v less is other = absurd (omega arith)
set-from f f' low (suc n) zero v less is other =
    let here : v ≡ f' low = is ∙ ap f' (omega arith) in
    let rest : map f (numbers (suc low) n) ≡ map f' (numbers (suc low) n) = tail-same f f' low (suc low) n (omega arith)
    (λ j off. other j (ap (eqb j) (omega arith) ∙ off)) in
    rw (here, rest) refl
set-from f f' low (suc n) (suc i) v less is other =
    let off : eqb low (low + suc i) ≡ false = grind (arith, nat_tests) in
    let here = other low off in
    let rest = set-from f f' (suc low) n i v (omega arith) (is ∙ ap f' (omega arith)) (λ j off'. other j (ap (eqb j) (omega arith) ∙ off')) in
    rw (here, rest) refl

pub set-level : {A : Type 0} (f f' : ℕ → A) (n k : ℕ) (v : A) → k < n → v ≡ f' k → ((j : ℕ) → eqb j k ≡ false → f j ≡ f' j) → slice_set (map f (below n)) k v ≡ map f' (below n)
set-level f f' n k v less is other =
    set-from f f' 0 n k v less (is ∙ ap f' (omega arith)) (λ j off. other j (ap (eqb j) (omega arith) ∙ off))

-- rows that are all turned into one thing
pub rows-numbers : {A B : Type 0} (b : B) (xs : List A) (low : ℕ) → map (λ (x : A). b) xs ≡ map (λ (j : ℕ). b) (numbers low (length xs))
rows-numbers b [] low = refl
rows-numbers b (x ∷ xs) low = ap (λ rest. b ∷ rest) (rows-numbers b xs (suc low))
