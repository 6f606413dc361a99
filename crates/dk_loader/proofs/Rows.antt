-- The rows of a table, as the program has them and as the definitions see them.
use Rattle.dk_loader.proofs.Names.{◌≡◌, ℕ, suc, Bool, ◌||◌, List, [], ◌∷◌, ◌++◌, map, refl, ap, String, Global, string_bytes, list_any, map_keys, Some, Data, Items, as_array, view, items_view, members_view, Value, Test, each_row, items_list, keys_of, elements, nat_tests, arith}

pub items_list-items_view : (vs : List Value) → items_list (items_view vs) ≡ map view vs
items_list-items_view [] = refl
items_list-items_view (v ∷ vs) = ap (λ (t : List Data). view v ∷ t) (items_list-items_view vs)

pub list_any-map : {A B : Type 0} (f : A → B) (test : B → Bool) (xs : List A) → list_any test (map f xs) ≡ list_any (λ x. test (f x)) xs
list_any-map f test [] = refl
list_any-map f test (x ∷ xs) = ap (λ b. test (f x) || b) (list_any-map f test xs)

pub keys_of-members_view : (es : List (String Global × Value)) → keys_of (members_view es) ≡ map string_bytes (map_keys es)
keys_of-members_view [] = refl
keys_of-members_view (e ∷ es) = ap (λ (t : List (List ℕ)). string_bytes e.0 ∷ t) (keys_of-members_view es)

pub each_row-map : {A B : Type 0} (f : A → B) (tests : ℕ → B → List Test) (i : ℕ) (xs : List A) → each_row tests i (map f xs) ≡ each_row (λ k x. tests k (f x)) i xs
each_row-map f tests i [] = refl
each_row-map f tests i (x ∷ xs) = ap (λ (t : List Test). tests i (f x) ++ t) (each_row-map f tests (suc i) xs)

pub elements-as_array : (d : Data) (ds : Items) → as_array d ≡ Some ds → elements d ≡ items_list ds
elements-as_array d ds h = grind (arith, nat_tests)
