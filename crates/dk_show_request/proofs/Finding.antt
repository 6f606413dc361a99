-- What is looked for in words as the program has them.
use Rattle.dk_show_request.proofs.Names.{◌≡◌, List, [], ◌∷◌, ap, map, length, refl, inl, inr, Bool, ◌||◌, filter, find, option_map, list_any, cases_Bool}

pub find-map : {A B : Type 0} (f : A → B) (p : B → Bool) (xs : List A) → find p (map f xs) ≡ option_map f (find (λ x. p (f x)) xs)
find-map f p [] = refl
find-map f p (x ∷ xs) =
    elim (cases_Bool (p (f x))) [
      | inl e ↦ simp e refl
      | inr e ↦ simp (e, find-map f p xs) refl
    ]

pub length-filter-map : {A B : Type 0} (f : A → B) (p : B → Bool) (xs : List A) → length (filter p (map f xs)) ≡ length (filter (λ x. p (f x)) xs)
length-filter-map f p [] = refl
length-filter-map f p (x ∷ xs) =
    elim (cases_Bool (p (f x))) [
      | inl e ↦ simp (e, length-filter-map f p xs) refl
      | inr e ↦ simp (e, length-filter-map f p xs) refl
    ]

pub list_any-map : {A B : Type 0} (f : A → B) (test : B → Bool) (xs : List A) → list_any test (map f xs) ≡ list_any (λ x. test (f x)) xs
list_any-map f test [] = refl
list_any-map f test (x ∷ xs) = ap (λ b. test (f x) || b) (list_any-map f test xs)

pub any_mapped : {A B : Type 0} (f : A → B) (test : B → Bool) (xs : List A) → list_any test (map f xs) ≡ list_any (λ x. test (f x)) xs
any_mapped f test xs = list_any-map f test xs
