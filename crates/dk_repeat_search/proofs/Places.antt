-- Lists, place by place.
use Rattle.dk_repeat_search.proofs.Names.{ℕ, zero, suc, ◌≡◌, ◌+◌, ◌<◌, ◌∙◌, ◌⊎◌, inl, inr, List, [], ◌∷◌, ◌++◌, length, get_or, set, map, Some, refl, ap, sym, arith, slice_get, range_with_len, length-map, map-id, length-range_with_len, map-range_with_len_more, Configuration, Has, OwnSearch, AreOwn, process_of}

pub has-place : {X : Type 0} (xs : List X) (x : X) → Has xs x → (i : ℕ) × (i < length xs) × (slice_get xs i ≡ Some x)
has-place [] x h = absurd h
has-place (y ∷ ys) x (inl is) = (zero, omega arith, ap Some is)
has-place (y ∷ ys) x (inr h) = let r = has-place ys x h in let low = r.1 in (suc r.0, omega (arith, low), r.2)

pub get-before : {X : Type 0} (xs ys : List X) (i : ℕ) (x : X) → slice_get xs i ≡ Some x → slice_get (xs ++ ys) i ≡ Some x
get-before [] ys i x is = absurd (cc)
get-before (y ∷ xs) ys zero x is = is
get-before (y ∷ xs) ys (suc i) x is = get-before xs ys i x is

pub get-last : {X : Type 0} (xs : List X) (x : X) → slice_get (xs ++ x ∷ []) (length xs) ≡ Some x
get-last [] x = refl
get-last (y ∷ xs) x = get-last xs x

-- what stands at a place of a list with one more is the one, at the end, or stood there
pub get-more : {X : Type 0} (xs : List X) (x : X) (i : ℕ) (y : X) → slice_get (xs ++ x ∷ []) i ≡ Some y → ((i ≡ length xs) × (x ≡ y)) ⊎ (slice_get xs i ≡ Some y)
get-more [] x zero y is = let same : x ≡ y = cc in inl (refl, same)
get-more [] x (suc i) y is = absurd (cc)
get-more (z ∷ xs) x zero y is = inr is
get-more (z ∷ xs) x (suc i) y is =
    elim (get-more xs x i y is) [
      | inl new ↦ let long : suc i ≡ suc (length xs) = ap (λ n. suc n) new.0 in inl (long, new.1)
      | inr old ↦ inr old
    ]

-- an item in place of one with the same value leaves the values
pub set-same : {X : Type 0} (f : X → ℕ) (xs : List X) (i : ℕ) (old new : X) → i < length xs → f new ≡ f (get_or xs i old) → map f (set xs i new) ≡ map f xs
set-same f [] i old new within same = absurd (omega arith)
set-same f (x ∷ xs) zero old new within same = ap (λ n. n ∷ map f xs) same
set-same f (x ∷ xs) (suc i) old new within same = ap (λ ns. f x ∷ ns) (set-same f xs i old new (omega arith) same)

pub range-more : (n : ℕ) → range_with_len 0 (n + 1) ≡ range_with_len 0 n ++ n ∷ []
range-more n =
    sym (map-id (range_with_len 0 (n + 1))) ∙ map-range_with_len_more (λ (m : ℕ). m) 0 n n (omega arith)
    ∙ ap (λ ms. ms ++ n ∷ []) (map-id (range_with_len 0 n))

pub many-own : (c : Configuration) (programs : List (List ℕ)) (tick : ℕ) (own : List OwnSearch) → AreOwn c programs tick own → length own ≡ length c.processes
many-own c programs tick own are = sym (length-map own process_of) ∙ ap length are.processes ∙ length-range_with_len 0 (length c.processes)

-- lists that are the same by two functions are so at each place
pub same-at : {X Y Z : Type 0} (f : X → Z) (g : Y → Z) (xs : List X) (ys : List Y) (i : ℕ) (d : X) (e : Y) → map f xs ≡ map g ys → i < length xs
    → (i < length ys) × (f (get_or xs i d) ≡ g (get_or ys i e))
same-at f g [] ys i d e same low = absurd (omega (arith, low))
same-at f g (x ∷ xs) [] i d e same low = absurd (cc)
same-at f g (x ∷ xs) (y ∷ ys) zero d e same low = let here : f x ≡ g y = cc in (omega arith, here)
same-at f g (x ∷ xs) (y ∷ ys) (suc i) d e same low =
    let rest : map f xs ≡ map g ys = cc in
    let r = same-at f g xs ys i d e rest (omega (arith, low)) in
    let less = r.0 in
    (omega (arith, less), r.1)
