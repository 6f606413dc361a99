-- Two lists, item by item in a relation.
use Rattle.dk_repeat.proofs.Names.{ℕ, zero, suc, ◌≡◌, ◌+◌, ◌<◌, Bool, true, false, cond, List, [], ◌∷◌, ◌++◌, length, Option, Some, None, refl, sym, ap, ◌∙◌, arith, map, flat_map, filter, find, sum_by, count_by, option_map, list_any, list_all, option_or, option_map_or, sum_by-cons, numbers, count_by-cons}

abbrev pub Pairs : {X : Type 0} → (X → X → Type 0) → List X → List X → Type 0
Pairs R [] [] = Unit {0}
Pairs R [] (y ∷ ys) = ⊥
Pairs R (x ∷ xs) [] = ⊥
Pairs R (x ∷ xs) (y ∷ ys) = R x y × Pairs R xs ys

abbrev pub Both : {X : Type 0} → (X → X → Type 0) → Option X → Option X → Type 0
Both R None None = Unit {0}
Both R None (Some y) = ⊥
Both R (Some x) None = ⊥
Both R (Some x) (Some y) = R x y

module _ {X : Type 0} (R : X → X → Type 0) where
  pub pairs-append : (xs ys xs' ys' : List X) → Pairs R xs ys → Pairs R xs' ys' → Pairs R (xs ++ xs') (ys ++ ys')
  pairs-append [] [] xs' ys' h h' = h'
  pairs-append [] (y ∷ ys) xs' ys' h h' = absurd h
  pairs-append (x ∷ xs) [] xs' ys' h h' = absurd h
  pairs-append (x ∷ xs) (y ∷ ys) xs' ys' h h' = (h.0, pairs-append xs ys xs' ys' h.1 h')

  pub pairs-flat : (f g : ℕ → List X) (low n : ℕ) → ((p : ℕ) → p < low + n → Pairs R (f p) (g p)) → Pairs R (flat_map f (numbers low n)) (flat_map g (numbers low n))
  pairs-flat f g low zero each = tt
  pairs-flat f g low (suc n) each =
      pairs-append (f low) (g low) (flat_map f (numbers (suc low) n)) (flat_map g (numbers (suc low) n))
      (each low (omega arith)) (pairs-flat f g (suc low) n (λ p less. each p (omega (arith, less))))

  pub pairs-map : (f g : X → X) (xs ys : List X) → Pairs R xs ys → ((x y : X) → R x y → R (f x) (g y)) → Pairs R (map f xs) (map g ys)
  pairs-map f g [] [] h each = tt
  pairs-map f g [] (y ∷ ys) h each = absurd h
  pairs-map f g (x ∷ xs) [] h each = absurd h
  pairs-map f g (x ∷ xs) (y ∷ ys) h each = (each x y h.0, pairs-map f g xs ys h.1 each)

  pub pairs-length : (xs ys : List X) → Pairs R xs ys → length xs ≡ length ys
  pairs-length [] [] h = refl
  pairs-length [] (y ∷ ys) h = absurd h
  pairs-length (x ∷ xs) [] h = absurd h
  pairs-length (x ∷ xs) (y ∷ ys) h = ap suc (pairs-length xs ys h.1)

  pub sum-pairs : (f g : X → ℕ) (xs ys : List X) → Pairs R xs ys → ((x y : X) → R x y → f x ≡ g y) → sum_by f xs ≡ sum_by g ys
  sum-pairs f g [] [] h each = refl
  sum-pairs f g [] (y ∷ ys) h each = absurd h
  sum-pairs f g (x ∷ xs) [] h each = absurd h
  sum-pairs f g (x ∷ xs) (y ∷ ys) h each =
      let here : f x ≡ g y = each x y h.0 in
      let rest : sum_by f xs ≡ sum_by g ys = sum-pairs f g xs ys h.1 each in
      omega (arith, sum_by-cons f x xs, sum_by-cons g y ys)

  pub find-pairs : (f g : X → Bool) (xs ys : List X) → Pairs R xs ys → ((x y : X) → R x y → f x ≡ g y) → Both R (find f xs) (find g ys)
  find-pairs f g [] [] h each = tt
  find-pairs f g [] (y ∷ ys) h each = absurd h
  find-pairs f g (x ∷ xs) [] h each = absurd h
  find-pairs f g (x ∷ xs) (y ∷ ys) h each =
      first (f x) (g y) (find f xs) (find g ys) (each x y h.0) h.0 (find-pairs f g xs ys h.1 each)
    where
      first : (a b : Bool) (o o' : Option X) → a ≡ b → R x y → Both R o o' → Both R (cond a (Some x) o) (cond b (Some y) o')
      first true true o o' same r later = r
      first false false o o' same r later = later
      first true false o o' same r later = absurd (cc)
      first false true o o' same r later = absurd (cc)

  pub filter-pairs : (f g : X → Bool) (xs ys : List X) → Pairs R xs ys → ((x y : X) → R x y → f x ≡ g y) → Pairs R (filter f xs) (filter g ys)
  filter-pairs f g [] [] h each = tt
  filter-pairs f g [] (y ∷ ys) h each = absurd h
  filter-pairs f g (x ∷ xs) [] h each = absurd h
  filter-pairs f g (x ∷ xs) (y ∷ ys) h each =
      first (f x) (g y) (filter f xs) (filter g ys) (each x y h.0) h.0 (filter-pairs f g xs ys h.1 each)
    where
      first : (a b : Bool) (zs zs' : List X) → a ≡ b → R x y → Pairs R zs zs' → Pairs R (cond a (x ∷ zs) zs) (cond b (y ∷ zs') zs')
      first true true zs zs' same r later = (r, later)
      first false false zs zs' same r later = later
      first true false zs zs' same r later = absurd (cc)
      first false true zs zs' same r later = absurd (cc)

  pub any-pairs : (f g : X → Bool) (xs ys : List X) → Pairs R xs ys → ((x y : X) → R x y → f x ≡ g y) → list_any f xs ≡ list_any g ys
  any-pairs f g [] [] h each = refl
  any-pairs f g [] (y ∷ ys) h each = absurd h
  any-pairs f g (x ∷ xs) [] h each = absurd h
  any-pairs f g (x ∷ xs) (y ∷ ys) h each = rw (each x y h.0, any-pairs f g xs ys h.1 each) refl

  pub both-or : (a b a' b' : Option X) → Both R a b → Both R a' b' → Both R (option_or a a') (option_or b b')
  both-or None None a' b' h h' = h'
  both-or None (Some y) a' b' h h' = absurd h
  both-or (Some x) None a' b' h h' = absurd h
  both-or (Some x) (Some y) a' b' h h' = h

  pub both-map : {Y : Type 0} (f g : X → Y) (a b : Option X) → Both R a b → ((x y : X) → R x y → f x ≡ g y) → option_map f a ≡ option_map g b
  both-map f g None None h each = refl
  both-map f g None (Some y) h each = absurd h
  both-map f g (Some x) None h each = absurd h
  both-map f g (Some x) (Some y) h each = ap Some (each x y h)

  pub both-or-else : {Y : Type 0} (f g : X → Y) (d : Y) (a b : Option X) → Both R a b → ((x y : X) → R x y → f x ≡ g y) → option_map_or f a d ≡ option_map_or g b d
  both-or-else f g d None None h each = refl
  both-or-else f g d None (Some y) h each = absurd h
  both-or-else f g d (Some x) None h each = absurd h
  both-or-else f g d (Some x) (Some y) h each = each x y h

-- tests and counts that agree
pub all-numbers : (f g : ℕ → Bool) (low n : ℕ) → ((j : ℕ) → j < low + n → f j ≡ g j) → list_all f (numbers low n) ≡ list_all g (numbers low n)
all-numbers f g low zero same = refl
all-numbers f g low (suc n) same = rw (same low (omega arith), all-numbers f g (suc low) n (λ j less. same j (omega (arith, less)))) refl

pub count-each : {X : Type 0} (f g : X → Bool) (xs : List X) → ((x : X) → f x ≡ g x) → count_by f xs ≡ count_by g xs
count-each f g [] same = refl
count-each f g (x ∷ xs) same =
    count_by-cons f x xs ∙ ap (λ b. cond b 1 0 + count_by f xs) (same x) ∙ ap (λ k. cond (g x) 1 0 + k) (count-each f g xs same) ∙ sym (count_by-cons g x xs)
