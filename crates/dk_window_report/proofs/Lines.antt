-- Lines that are written one after another.
use Rattle.std.proofs.Common.{ℕ, ◌≡◌, ◌+◌, ◌<◌, ◌∙◌, refl, sym, ap, Bool, true, List, [], ◌∷◌, ◌++◌, length, flat_map, get_or, take, drop, append_assoc, append-nil}
use Rattle.std.specs.Prelude.{◌||◌}
use Rattle.std.specs.List.{list_any}
use Rattle.std.proofs.Math.Bool.{or-false, or-true}
use Rattle.std.proofs.lemmas.List.Folds.{list_any-append}
use Rattle.std.proofs.lemmas.List.{take_more, take-append-drop}
use Rattle.std.proofs.lemmas.Grind.{flat_map-append}

-- a line more
pub line-more : {A : Type 0} (line : A → List ℕ) (xs : List A) (d : A) (i : ℕ) (text : List ℕ) → i < length xs → text ≡ line (get_or xs i d)
    → flat_map line (take (i + 1) xs) ≡ flat_map line (take i xs) ++ text
line-more line xs d i text within is =
    ap (flat_map line) (take_more xs i d within)
    ∙ flat_map-append line (take i xs) (get_or xs i d ∷ [])
    ∙ ap (λ t. flat_map line (take i xs) ++ t) (append-nil (line (get_or xs i d)) ∙ sym is)

-- a line, between those before it and those after it
pub lines-around : {A : Type 0} (line : A → List ℕ) (xs : List A) (d : A) (i : ℕ) (text : List ℕ) → i < length xs → text ≡ line (get_or xs i d)
    → flat_map line xs ≡ flat_map line (take i xs) ++ (text ++ flat_map line (drop (i + 1) xs))
lines-around line xs d i text within is =
    ap (flat_map line) (sym (take-append-drop (i + 1) xs))
    ∙ flat_map-append line (take (i + 1) xs) (drop (i + 1) xs)
    ∙ ap (λ t. t ++ flat_map line (drop (i + 1) xs)) (line-more line xs d i text within is)
    ∙ append_assoc (flat_map line (take i xs)) text (flat_map line (drop (i + 1) xs))

-- whether it holds of any, with one more
pub any-more : {A : Type 0} (f : A → Bool) (xs : List A) (i : ℕ) (d x : A) (any this : Bool) → i < length xs → x ≡ get_or xs i d → any ≡ list_any f (take i xs)
    → this ≡ f x → (any || this) ≡ list_any f (take (i + 1) xs)
any-more f xs i d x any this within is before own =
    ap (λ b. b || this) before ∙ ap (λ b. list_any f (take i xs) || b) (own ∙ ap f is ∙ sym (or-false (f (get_or xs i d))))
    ∙ sym (list_any-append f (take i xs) (get_or xs i d ∷ [])) ∙ ap (list_any f) (sym (take_more xs i d within))

-- it holds of one
pub any-found : {A : Type 0} (f : A → Bool) (xs : List A) (i : ℕ) (d x : A) → i < length xs → x ≡ get_or xs i d → f x ≡ true → true ≡ list_any f xs
any-found f xs i d x within is holds =
    let upto : (list_any f (take i xs) || true) ≡ list_any f (take (i + 1) xs) = any-more f xs i d x (list_any f (take i xs)) true within is refl (sym holds) in
    let first : true ≡ list_any f (take (i + 1) xs) = sym (or-true (list_any f (take i xs))) ∙ upto in
    ap (λ b. b || list_any f (drop (i + 1) xs)) first
    ∙ sym (list_any-append f (take (i + 1) xs) (drop (i + 1) xs)) ∙ ap (list_any f) (take-append-drop (i + 1) xs)
