-- What stands in lists that are joined, mapped, filtered or searched, and sums over lists by what stands in them.
use Rattle.dk_trace.proofs.Names.{ℕ, zero, suc, ◌≡◌, ◌+◌, ◌<◌, ◌≤◌, ◌⊎◌, inl, inr, Bool, true, false, List, [], ◌∷◌, ◌++◌, length, get_or, refl, ap, subst, cond, ◌∙◌, arith, sum_by, map, flat_map, filter, find, slice_get, Some, None, Contains, filter_map, list_any, cons_option, cases_Bool, cases_eq, sum_by-append, sum_by-cons, find-joined, numbers, sum_from, or-none, Has, nat_tests}
use Rattle.std.proofs.Common.{Option}

pub has-append : {X : Type 0} (xs ys : List X) (x : X) → Has (xs ++ ys) x → Has xs x ⊎ Has ys x
has-append [] ys x h = inr h
has-append (z ∷ zs) ys x (inl here) = inl (inl here)
has-append (z ∷ zs) ys x (inr later) = elim (has-append zs ys x later) [ inl a ↦ inl (inr a) | inr b ↦ inr b ]

pub append-left : {X : Type 0} (xs ys : List X) (x : X) → Has xs x → Has (xs ++ ys) x
append-left [] ys x h = absurd h
append-left (z ∷ zs) ys x (inl here) = inl here
append-left (z ∷ zs) ys x (inr later) = inr (append-left zs ys x later)

pub append-right : {X : Type 0} (xs ys : List X) (x : X) → Has ys x → Has (xs ++ ys) x
append-right [] ys x h = h
append-right (z ∷ zs) ys x h = inr (append-right zs ys x h)

pub has-map : {X Y : Type 0} (f : X → Y) (xs : List X) (y : Y) → Has (map f xs) y → (x : X) × Has xs x × (f x ≡ y)
has-map f [] y h = absurd h
has-map f (x ∷ xs) y (inl here) = (x, inl refl, here)
has-map f (x ∷ xs) y (inr later) = let r = has-map f xs y later in (r.0, inr r.1, r.2)

pub map-has : {X Y : Type 0} (f : X → Y) (xs : List X) (x : X) → Has xs x → Has (map f xs) (f x)
map-has f [] x h = absurd h
map-has f (z ∷ zs) x (inl here) = inl (ap f here)
map-has f (z ∷ zs) x (inr later) = inr (map-has f zs x later)

pub has-flat_from : {X : Type 0} (lists : ℕ → List X) (low n : ℕ) (x : X) → Has (flat_map lists (numbers low n)) x
    → (p : ℕ) × (low ≤ p) × (p < low + n) × Has (lists p) x
has-flat_from lists low zero x h = absurd h
has-flat_from lists low (suc n) x h =
    elim (has-append (lists low) (flat_map lists (numbers (suc low) n)) x h) [
      | inl here ↦ (low, omega arith, omega arith, here)
      | inr later ↦ let r = has-flat_from lists (suc low) n x later in (r.0, omega (arith, r.1), omega (arith, r.2), r.3)
    ]

pub has-flat : {X : Type 0} (lists : ℕ → List X) (low n : ℕ) (x : X) → Has (flat_map lists (numbers low n)) x
    → (p : ℕ) × (p < low + n) × Has (lists p) x
has-flat lists low n x h = let r = has-flat_from lists low n x h in (r.0, r.2, r.3)

pub flat-has : {X : Type 0} (lists : ℕ → List X) (low n p : ℕ) (x : X) → low ≤ p → p < low + n → Has (lists p) x
    → Has (flat_map lists (numbers low n)) x
flat-has lists low zero p x a b h = absurd (omega arith)
flat-has lists low (suc n) p x a b h = grind (arith, nat_tests, append-left, append-right, flat-has lists (suc low) n)

pub find-has : {X : Type 0} (test : X → Bool) (xs : List X) (x : X) → find test xs ≡ Some x → Has xs x × (test x ≡ true)
find-has test [] x h = absurd (cc)
find-has test (z ∷ zs) x h = grind (arith, nat_tests, find-has test zs)

pub contains-has : {X : Type 0} (xs : List X) (x : X) → Contains xs x → Has xs x
contains-has xs x h = go xs h.0 h.1 h.2
  where
    go : (ys : List _) (i : ℕ) → i < length ys → get_or ys i x ≡ x → Has ys x
    go [] i inside is = absurd (omega arith)
    go (y ∷ ys) zero inside is = inl is
    go (y ∷ ys) (suc i) inside is = inr (go ys i (omega arith) is)

pub has-contains : {X : Type 0} (xs : List X) (x : X) → Has xs x → Contains xs x
has-contains [] x h = absurd h
has-contains (y ∷ ys) x (inl is) = (0, omega arith, is)
has-contains (y ∷ ys) x (inr h) = let r = has-contains ys x h in let low = r.1 in (suc r.0, omega arith, r.2)

pub has-filter : {X : Type 0} (test : X → Bool) (xs : List X) (x : X) → Has xs x → test x ≡ true → Has (filter test xs) x
has-filter test [] x h passes = absurd h
has-filter test (y ∷ xs) x (inl is) passes = grind (arith, nat_tests)
has-filter test (y ∷ xs) x (inr h) passes = grind (arith, nat_tests, has-filter test xs x h)

pub filter-has : {X : Type 0} (test : X → Bool) (xs : List X) (x : X) → Has (filter test xs) x → Has xs x × (test x ≡ true)
filter-has {X = X} test [] x h = absurd h
filter-has {X = X} test (z ∷ zs) x h = grind (arith, nat_tests, filter-has test zs x)

pub numbers-has : (low n k : ℕ) → low ≤ k → k < low + n → Has (numbers low n) k
numbers-has low zero k a b = absurd (omega arith)
numbers-has low (suc n) k a b = elim (cases_eq low k) [ inl same ↦ inl same | inr other ↦ inr (numbers-has (suc low) n k (omega arith) (omega arith)) ]

pub has-numbers : (low n k : ℕ) → Has (numbers low n) k → (low ≤ k) × (k < low + n)
has-numbers low zero k h = absurd h
has-numbers low (suc n) k (inl h) = (omega arith, omega arith)
has-numbers low (suc n) k (inr h) = let r = has-numbers (suc low) n k h in (omega (arith, r.0), omega (arith, r.1))

-- a search finds something where something passes
pub find-some : {X : Type 0} (test : X → Bool) (xs : List X) (x : X) → Has xs x → test x ≡ true
    → (z : X) × Has xs z × (test z ≡ true) × (find test xs ≡ Some z)
find-some {X = X} test [] x h t = absurd h
find-some {X = X} test (y ∷ ys) x h t =
    elim (cases_Bool (test y)) [
      | inl passes ↦ (y, inl refl, passes, (rw passes refl))
      | inr fails ↦
          let r = find-some test ys x (later h fails) t in
          (r.0, inr r.1, r.2, (rw fails r.3))
    ]
  where
    later : (y ≡ x) ⊎ Has ys x → test y ≡ false → Has ys x
    later (inl here) fails = absurd (let same = ap test here in cc)
    later (inr there) fails = there

pub find-none : {X : Type 0} (test : X → Bool) (xs : List X) (x : X) → find test xs ≡ None → Has xs x → test x ≡ false
find-none test [] x h g = absurd g
find-none test (z ∷ xs) x h g = grind (arith, nat_tests, find-none test xs)

find-append : {X : Type 0} (test : X → Bool) (xs ys : List X) (y : X) → find test (xs ++ ys) ≡ Some y → Has xs y ⊎ (find test ys ≡ Some y)
find-append test [] ys y h = inr h
find-append test (x ∷ xs) ys y h = grind (arith, nat_tests, find-append test xs)

-- where the first of list q passes, a search through all lists finds it, or something of a list before
pub find-flat : {X : Type 0} (test : X → Bool) (lists : ℕ → List X) (low n q : ℕ) (x : X) (rest : List X) (y : X) → lists q ≡ x ∷ rest → test x ≡ true
    → low ≤ q → q < low + n → find test (flat_map lists (numbers low n)) ≡ Some y → (y ≡ x) ⊎ ((r : ℕ) × (r < q) × Has (lists r) y)
find-flat test lists low zero q x rest y is passes a b h = absurd (omega arith)
find-flat test lists low (suc n) q x rest y is passes a b h =
    elim (cases_eq low q) [
      | inl same ↦
          let here : lists low ≡ x ∷ rest = ap lists same ∙ is in
          let found : find test ((x ∷ rest) ++ flat_map lists (numbers (suc low) n)) ≡ Some y =
          subst (λ zs. find test (zs ++ flat_map lists (numbers (suc low) n)) ≡ Some y) here h in
          let first : Some x ≡ Some y = rw passes at found in
          inl (cc)
      | inr other ↦
          elim (find-append test (lists low) (flat_map lists (numbers (suc low) n)) y h) [
            | inl here ↦ inr (low, omega arith, here)
            | inr there ↦ find-flat test lists (suc low) n q x rest y is passes (omega arith) (omega arith) there
          ]
    ]

pub sum_by-le : {X : Type 0} (f g : X → ℕ) (xs : List X) → ((x : X) → Has xs x → f x ≤ g x) → sum_by f xs ≤ sum_by g xs
sum_by-le f g [] le = omega arith
sum_by-le f g (x ∷ xs) le = grind (arith, nat_tests, sum_by-cons, sum_by-le f g xs)

-- one of the terms is less
pub sum_by-less : {X : Type 0} (f g : X → ℕ) (xs : List X) (x : X) → ((y : X) → Has xs y → f y ≤ g y) → Has xs x → f x + 1 ≤ g x → sum_by f xs + 1 ≤ sum_by g xs
sum_by-less f g [] x le h less = absurd h
sum_by-less f g (z ∷ xs) x le (inl h) less = grind (arith, nat_tests, sum_by-le, sum_by-cons)
sum_by-less f g (z ∷ xs) x le (inr h) less = grind (arith, nat_tests, sum_by-le, sum_by-cons, sum_by-less f g xs)

pub sum_by-same : {X : Type 0} (f g : X → ℕ) (xs : List X) → ((x : X) → Has xs x → f x ≡ g x) → sum_by f xs ≡ sum_by g xs
sum_by-same f g [] same = refl
sum_by-same f g (x ∷ xs) same = grind (arith, nat_tests, sum_by-cons, sum_by-same f g xs)

pub sum_by-zero : {X : Type 0} (f : X → ℕ) (xs : List X) → ((x : X) → Has xs x → f x ≡ 0) → sum_by f xs ≡ 0
sum_by-zero f [] same = refl
sum_by-zero f (x ∷ xs) same = grind (arith, nat_tests, sum_by-zero f xs)

pub sum_by-add : {X : Type 0} (f g : X → ℕ) (xs : List X) → sum_by (λ x. f x + g x) xs ≡ sum_by f xs + sum_by g xs
sum_by-add f g [] = refl
sum_by-add f g (x ∷ xs) =
    let rest = sum_by-add f g xs in
    omega (arith, rest, sum_by-cons (λ x. f x + g x) x xs, sum_by-cons f x xs, sum_by-cons g x xs)

-- a sum is at least each of its terms
pub sum_by-term : {X : Type 0} (f : X → ℕ) (xs : List X) (x : X) → Has xs x → f x ≤ sum_by f xs
sum_by-term f [] x h = absurd h
sum_by-term f (z ∷ zs) x (inl here) = let e : f z ≡ f x = ap f here in omega (arith, sum_by-cons f z zs)
sum_by-term f (z ∷ zs) x (inr later) = let rest = sum_by-term f zs x later in omega (arith, rest, sum_by-cons f z zs)

pub sum_by-map : {X Y : Type 0} (f : Y → ℕ) (h : X → Y) (xs : List X) → sum_by f (map h xs) ≡ sum_by (λ x. f (h x)) xs
sum_by-map f h [] = refl
sum_by-map f h (x ∷ xs) =
    let rest = sum_by-map f h xs in
    omega (arith, rest, sum_by-cons f (h x) (map h xs), sum_by-cons (λ x. f (h x)) x xs)

pub sum_by-flat : {X : Type 0} (f : X → ℕ) (lists : ℕ → List X) (low n : ℕ)
    → sum_by f (flat_map lists (numbers low n)) ≡ sum_from low n (λ p. sum_by f (lists p))
sum_by-flat f lists low zero = refl
sum_by-flat f lists low (suc n) = grind (arith, nat_tests, sum_by-append, sum_by-flat f lists (suc low) n)

-- a sum over what passes a test
pub sum_by-filter : {X : Type 0} (f : X → ℕ) (test : X → Bool) (xs : List X)
    → sum_by f (filter test xs) ≡ sum_by (λ x. cond (test x) (f x) 0) xs
sum_by-filter f test [] = refl
sum_by-filter {X = X} f test (x ∷ xs) =
    let rest = sum_by-filter f test xs in
    let whole = sum_by-cons (λ x. cond (test x) (f x) 0) x xs in
    let first = head (test x) x (filter test xs) in
    omega (arith, rest, whole, first)
  where
    head : (b : Bool) (x : X) (ys : List X) → sum_by f (cond b (x ∷ ys) ys) ≡ cond b (f x) 0 + sum_by f ys
    head true x ys = sum_by-cons f x ys
    head false x ys = omega arith

pub has-length : {X : Type 0} (xs : List X) (x : X) → Has xs x → 0 < length xs
has-length [] x h = absurd h
has-length (y ∷ ys) x h = omega arith

pub get-has : {X : Type 0} (xs : List X) (i : ℕ) (x : X) → slice_get xs i ≡ Some x → Has xs x
get-has [] i x h = absurd (cc)
get-has (y ∷ ys) zero x h = inl (cc)
get-has (y ∷ ys) (suc i) x h = inr (get-has ys i x h)

pub list_any-has : {X : Type 0} (test : X → Bool) (xs : List X) (x : X) → Has xs x → test x ≡ true → list_any test xs ≡ true
list_any-has test [] x h holds = absurd h
list_any-has test (y ∷ ys) x (inl h) holds = grind (arith, nat_tests)
list_any-has test (y ∷ ys) x (inr h) holds = grind (arith, nat_tests, list_any-has test ys x h)

pub map-alike : {X Y : Type 0} (f g : X → Y) (xs : List X) → ((x : X) → Has xs x → f x ≡ g x) → map f xs ≡ map g xs
map-alike f g [] same = refl
map-alike f g (x ∷ xs) same = rw (same x (inl refl), map-alike f g xs (λ y h. same y (inr h))) refl

has-cons : {Y : Type 0} (o : Option Y) (ys : List Y) (y : Y) → Has (cons_option o ys) y → (o ≡ Some y) ⊎ Has ys y
has-cons is ys y h = grind (arith, nat_tests)

pub filter_map-has : {X Y : Type 0} (f : X → Option Y) (xs : List X) (y : Y) → Has (filter_map f xs) y → (x : X) × Has xs x × (f x ≡ Some y)
filter_map-has f [] y h = absurd h
filter_map-has f (x ∷ xs) y h =
    elim (has-cons (f x) (filter_map f xs) y h) [
      | inl is ↦ (x, inl refl, is)
      | inr rest ↦ let r = filter_map-has f xs y rest in (r.0, inr r.1, r.2)
    ]

has-cons_option : {Y : Type 0} (o : Option Y) (ys : List Y) (y : Y) → Has ys y → Has (cons_option o ys) y
has-cons_option is ys y h = grind (arith, nat_tests)

pub has-filter_map : {X Y : Type 0} (f : X → Option Y) (xs : List X) (x : X) (y : Y) → Has xs x → f x ≡ Some y → Has (filter_map f xs) y
has-filter_map f [] x y h is = absurd h
has-filter_map f (z ∷ xs) x y (inl same) is = let here : f z ≡ Some y = ap f same ∙ is in rw here (inl refl)
has-filter_map f (z ∷ xs) x y (inr h) is = has-cons_option (f z) (filter_map f xs) y (has-filter_map f xs x y h is)

pub map-rests : {X : Type 0} (f : X → X) (xs : List X) → ((x : X) → Has xs x → f x ≡ x) → map f xs ≡ xs
map-rests f [] h = refl
map-rests f (x ∷ xs) h = ap (λ y. y ∷ map f xs) (h x (inl refl)) ∙ ap (λ ys. x ∷ ys) (map-rests f xs (λ y at. h y (inr at)))

pub filter_map-rests : {X : Type 0} (f : X → Option X) (xs : List X) → ((x : X) → Has xs x → f x ≡ Some x) → filter_map f xs ≡ xs
filter_map-rests f [] h = refl
filter_map-rests f (x ∷ xs) h = rw (h x (inl refl)) (ap (λ ys. x ∷ ys) (filter_map-rests f xs (λ y at. h y (inr at))))

pub filter-rests : {X Y : Type 0} (f : Y → X) (test : X → Bool) (ys : List Y) → ((y : Y) → Has ys y → test (f y) ≡ true) → filter test (map f ys) ≡ map f ys
filter-rests f test [] h = refl
filter-rests f test (y ∷ ys) h = rw (h y (inl refl)) (ap (λ xs. f y ∷ xs) (filter-rests f test ys (λ z at. h z (inr at))))

pub nothing-in : {X : Type 0} (xs : List X) → ((x : X) → Has xs x → ⊥) → xs ≡ []
nothing-in [] none = refl
nothing-in (x ∷ xs) none = absurd (none x (inl refl))

pub any-has : {X : Type 0} (test : X → Bool) (xs : List X) → list_any test xs ≡ true → (x : X) × Has xs x × (test x ≡ true)
any-has test [] h = absurd (cc)
any-has test (x ∷ xs) h =
    elim (cases_Bool (test x)) [
      | inl here ↦ (x, inl refl, here)
      | inr other ↦ let r = any-has test xs (rw other at h) in (r.0, inr r.1, r.2)
    ]

pub find-nothing : {X : Type 0} (test : X → Bool) (xs : List X) → ((x : X) → Has xs x → test x ≡ false) → find test xs ≡ None
find-nothing test [] off = refl
find-nothing test (x ∷ xs) off = rw (off x (inl refl)) (find-nothing test xs (λ y h. off y (inr h)))

-- what the others add nothing to
pub sum-filter : {X : Type 0} (test : X → Bool) (g : X → ℕ) (xs : List X) → ((x : X) → Has xs x → test x ≡ false → g x ≡ 0) → sum_by g (filter test xs) ≡ sum_by g xs
sum-filter test g [] none = refl
sum-filter test g (x ∷ xs) none = grind (arith, nat_tests, sum_by-cons, sum-filter test g xs)

module _ {X : Type 0} (old new more : ℕ → List X) (grown : (n : ℕ) → new n ≡ old n ++ more n) where
  pub old-there : (ns : List ℕ) (x : X) → Has (flat_map old ns) x → Has (flat_map new ns) x
  old-there [] x h = h
  old-there (n ∷ ns) x h = grind (arith, nat_tests, has-append, append-left, append-right, old-there ns)

  pub new-from : (ns : List ℕ) (x : X) → Has (flat_map new ns) x → Has (flat_map old ns) x ⊎ ((n : ℕ) × Has (more n) x)
  new-from [] x h = inl h
  new-from (n ∷ ns) x h =
      elim (has-append (new n) (flat_map new ns) x h) [
        | inl first ↦
            elim (has-append (old n) (more n) x (subst (λ xs. Has xs x) (grown n) first)) [
              | inl a ↦ inl (append-left (old n) (flat_map old ns) x a)
              | inr b ↦ inr (n, b)
            ]
        | inr later ↦
            elim (new-from ns x later) [
              | inl a ↦ inl (append-right (old n) (flat_map old ns) x a)
              | inr b ↦ inr b
            ]
      ]

  pub find-grown : (test : X → Bool) (ns : List ℕ) → ((n : ℕ) → find test (more n) ≡ None) → find test (flat_map new ns) ≡ find test (flat_map old ns)
  find-grown test [] none = refl
  find-grown test (n ∷ ns) none = grind (arith, nat_tests, find-joined, or-none, find-grown test ns)
