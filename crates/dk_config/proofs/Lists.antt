-- What lists keep when they are mapped, filtered, cut and written, and what tests of numbers and options say.
use Rattle.std.proofs.Common.{◌≡◌, List, map, ◌∷◌, refl, inr, option_map, Bool, inl, None, false, Option, Some, suc, ap, ◌∙◌, ℕ, drop, ◌+◌, sym, add-one, length, arith, eqb, true, ◌&&◌, get_or, ◌<◌, take, not, is_none, zero, []}
use Rattle.std.proofs.lemmas.Bool.{cases_Bool}
use Rattle.std.proofs.lemmas.Bool.Decides.{nat_tests}
use Rattle.std.specs.Prelude.{slice_get, find, filter, is_some, slice_set}
use Rattle.std.specs.Option.{option_map_or, option_or}

-- the front of those that pass is the first that is found
pub front-found : {X Y : Type 0} (f : X → Y) (test : X → Bool) (xs : List X) → slice_get (map f (filter test xs)) 0 ≡ option_map f (find test xs)
front-found f test [] = refl
front-found f test (x ∷ xs) =
    elim (cases_Bool (test x)) [
      | inl here ↦ rw here refl
      | inr off ↦ rw off (front-found f test xs)
    ]

pub none-of : {A : Type 0} (o : Option A) → is_some o ≡ false → o ≡ None
none-of None h = refl
none-of (Some x) h = absurd (cc)

pub map-places-stay : {X : Type 0} (f : X → X) (xs : List X) → ((k : ℕ) (x : X) → slice_get xs k ≡ Some x → f x ≡ x) → map f xs ≡ xs
map-places-stay f [] h = refl
map-places-stay f (x ∷ xs) h = ap (λ y. y ∷ map f xs) (h 0 x refl) ∙ ap (λ ys. x ∷ ys) (map-places-stay f xs (λ k y at. h (suc k) y at))

drop-here : {A : Type 0} (xs : List A) (i : ℕ) (x : A) → slice_get xs i ≡ Some x → drop i xs ≡ x ∷ drop (suc i) xs
drop-here [] i x at = absurd (cc)
drop-here (y ∷ xs) zero x at = let e : y ≡ x = cc in ap (λ z. z ∷ xs) e
drop-here (y ∷ xs) (suc i) x at = drop-here xs i x at

pub drop-some : {A : Type 0} (xs : List A) (i : ℕ) (x : A) → slice_get xs i ≡ Some x → drop i xs ≡ x ∷ drop (i + 1) xs
drop-some xs i x at = drop-here xs i x at ∙ ap (λ k. x ∷ drop k xs) (sym (add-one i))

pub drop-none : {A : Type 0} (xs : List A) (i : ℕ) → slice_get xs i ≡ None → drop i xs ≡ []
drop-none [] zero at = refl
drop-none [] (suc i) at = refl
drop-none (y ∷ xs) zero at = absurd (cc)
drop-none (y ∷ xs) (suc i) at = drop-none xs i at

drop-after : {A : Type 0} (xs : List A) (i : ℕ) → slice_get xs i ≡ None → drop (suc i) xs ≡ []
drop-after [] i at = refl
drop-after (y ∷ xs) zero at = absurd (cc)
drop-after (y ∷ xs) (suc i) at = drop-after xs i at

pub drop-next : {A : Type 0} (xs : List A) (i : ℕ) → slice_get xs i ≡ None → drop (i + 1) xs ≡ []
drop-next xs i at = ap (λ k. drop k xs) (add-one i) ∙ drop-after xs i at

pub slice_set-length : {A : Type 0} (xs : List A) (i : ℕ) (x : A) → length (slice_set xs i x) ≡ length xs
slice_set-length [] i x = refl
slice_set-length (y ∷ xs) zero x = refl
slice_set-length (y ∷ xs) (suc i) x = ap suc (slice_set-length xs i x)

-- what becomes of the families
pub get-set-same : {X : Type 0} (xs : List X) (p : ℕ) (x y : X) → slice_get xs p ≡ Some x → slice_get (slice_set xs p y) p ≡ Some y
get-set-same [] p x y is = absurd (cc)
get-set-same (z ∷ xs) zero x y is = refl
get-set-same (z ∷ xs) (suc p) x y is = get-set-same xs p x y is

pub get-set-other : {X : Type 0} (xs : List X) (p q : ℕ) (y : X) → eqb q p ≡ false → slice_get (slice_set xs p y) q ≡ slice_get xs q
get-set-other [] p q y apart = refl
get-set-other (z ∷ xs) zero zero y apart = absurd (cc)
get-set-other (z ∷ xs) zero (suc q) y apart = refl
get-set-other (z ∷ xs) (suc p) zero y apart = refl
get-set-other (z ∷ xs) (suc p) (suc q) y apart = get-set-other xs p q y (let off : eqb q p ≡ false = grind (arith, nat_tests) in off)

pub filter-all : {X : Type 0} (p : X → Bool) (xs : List X) → ((x : X) → p x ≡ true) → filter p xs ≡ xs
filter-all p [] all = refl
filter-all p (x ∷ xs) all = rw (all x, filter-all p xs all) refl

pub filter-twice : {X : Type 0} (f g h : X → Bool) (xs : List X) → ((x : X) → (g x && f x) ≡ h x) → filter f (filter g xs) ≡ filter h xs
filter-twice f g h [] same = refl
filter-twice f g h (x ∷ xs) same =
    let rest = filter-twice f g h xs same in
    elim (cases_Bool (g x)) [
      | inl on ↦ let e : f x ≡ h x = ap (λ b. b && f x) (sym on) ∙ same x in rw (on, e, rest) refl
      | inr off ↦ let e : h x ≡ false = sym (same x) ∙ ap (λ b. b && f x) off in rw (off, e) rest
    ]

pub map-none : {X Y : Type 0} (f : X → Y) (xs : List X) → map f xs ≡ [] → xs ≡ []
map-none f [] none = refl
map-none f (x ∷ xs) none = absurd (cc)

-- a number of the row of a level
pub number-at : {A : Type 0} (f : A → ℕ) (xs : List A) (i : ℕ) → get_or (map f xs) i 0 ≡ option_map_or f (slice_get xs i) 0
number-at f [] i = refl
number-at f (x ∷ xs) zero = refl
number-at f (x ∷ xs) (suc i) = number-at f xs i

pub raised-all : (P : ℕ → Type 0) (us : List ℕ) → ((j d : ℕ) → j < length us → P (get_or us j d)) → (level k d : ℕ) → k < length (take level us) → P (get_or (take level us) k d)
raised-all P us each zero k d h = absurd (omega arith)
raised-all P [] each (suc level) k d h = absurd (omega arith)
raised-all P (u ∷ us) each (suc level) zero d h = each 0 d (omega arith)
raised-all P (u ∷ us) each (suc level) (suc k) d h = raised-all P us (λ j d' inside. each (suc j) d' (omega arith)) level k d (omega arith)

pub eqb-not : (a b : ℕ) → eqb a b ≡ false → eqb b a ≡ false
eqb-not a b h = grind (arith, nat_tests)

pub eqb-flip : (a b : ℕ) → eqb a b ≡ eqb b a
eqb-flip a b = grind (arith, nat_tests)

pub not-some : (o : Option ℕ) → not (is_some o) ≡ is_none o
not-some None = refl
not-some (Some t) = refl

pub none-stop : (o : Option ℕ) → is_none o ≡ true → o ≡ None
none-stop None h = refl
none-stop (Some t) h = absurd (cc)

pub or-none : {X : Type 0} (o : Option X) → option_or o None ≡ o
or-none None = refl
or-none (Some x) = refl
