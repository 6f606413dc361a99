-- Facts of each element of a list, and of what is chosen from one.
use Rattle.dk_world.proofs.Names.{ℕ, zero, suc, ◌+◌, ◌<◌, ◌≤◌, Bool, true, false, cond, List, ◌∷◌, ◌++◌, reverse, arith, sym, subst, IfSome, option_map, unwrap_or, find, filter, flat_map, slice_get, option_or, option_map_or, AllByRecursion, reverse-append, numbers, first_of}
use Rattle.std.proofs.Common.{[], map}
use Rattle.std.specs.Prelude.{Option, Some, None}

pub either : {A : Type 0} (P : A → Type 0) (b : Bool) (x y : A) → P x → P y → P (cond b x y)
either P true x y p q = p
either P false x y p q = q

pub or_some : {A : Type 0} (P : A → Type 0) (o p : Option A) → IfSome o P → IfSome p P → IfSome (option_or o p) P
or_some P None p h k = k
or_some P (Some x) p h k = h

pub map_some : {A B : Type 0} (P : A → Type 0) (Q : B → Type 0) (f : A → B) → ((x : A) → P x → Q (f x)) → (o : Option A) → IfSome o P → IfSome (option_map f o) Q
map_some P Q f g None h = tt
map_some P Q f g (Some x) h = g x h

pub map_or : {A B : Type 0} (P : A → Type 0) (Q : B → Type 0) (f : A → B) → ((x : A) → P x → Q (f x)) → (o : Option A) (d : B) → IfSome o P → Q d → Q (option_map_or f o d)
map_or P Q f g None d h k = k
map_or P Q f g (Some x) d h k = g x h

pub some_or : {A : Type 0} (P : A → Type 0) (o : Option A) (d : A) → IfSome o P → P d → P (unwrap_or o d)
some_or P None d h k = k
some_or P (Some x) d h k = h

module _ {A : Type 0} (P : A → Type 0) where
  pub each_append : (xs ys : List A) → AllByRecursion P xs → AllByRecursion P ys → AllByRecursion P (xs ++ ys)
  each_append [] ys h k = k
  each_append (x ∷ xs) ys h k = (h.0, each_append xs ys h.1 k)

  pub each_map : {B : Type 0} (Q : B → Type 0) (f : B → A) → ((x : B) → Q x → P (f x)) → (xs : List B) → AllByRecursion Q xs → AllByRecursion P (map f xs)
  each_map Q f g [] h = tt
  each_map Q f g (x ∷ xs) h = (g x h.0, each_map Q f g xs h.1)

  pub each_find : (test : A → Bool) (xs : List A) → AllByRecursion P xs → IfSome (find test xs) P
  each_find test [] h = tt
  each_find test (x ∷ xs) h = either (λ o. IfSome o P) (test x) (Some x) (find test xs) h.0 (each_find test xs h.1)

  pub each_filter : (test : A → Bool) (xs : List A) → AllByRecursion P xs → AllByRecursion P (filter test xs)
  each_filter test [] h = tt
  each_filter test (x ∷ xs) h =
      either (AllByRecursion P) (test x) (x ∷ filter test xs) (filter test xs) (h.0, each_filter test xs h.1) (each_filter test xs h.1)

  pub each_flat : (lists : ℕ → List A) (low n : ℕ) → ((p : ℕ) → low ≤ p → p < low + n → AllByRecursion P (lists p)) → AllByRecursion P (flat_map lists (numbers low n))
  each_flat lists low zero h = tt
  each_flat lists low (suc n) h =
      each_append (lists low) (flat_map lists (numbers (suc low) n)) (h low (omega arith) (omega arith))
      (each_flat lists (suc low) n (λ p a b. h p (omega arith) (omega arith)))

  pub each_reverse : (xs : List A) → AllByRecursion P xs → AllByRecursion P (reverse xs)
  each_reverse [] h = tt
  each_reverse (x ∷ xs) h =
      subst (AllByRecursion P) (sym (reverse-append (x ∷ []) xs)) (each_append (reverse xs) (x ∷ []) (each_reverse xs h.1) (h.0, tt))

  pub each_get : (xs : List A) (i : ℕ) → AllByRecursion P xs → IfSome (slice_get xs i) P
  each_get [] i h = tt
  each_get (x ∷ xs) zero h = h.0
  each_get (x ∷ xs) (suc i) h = each_get xs i h.1

  pub each_first : (f : ℕ → Option A) (low n : ℕ) → ((k : ℕ) → low ≤ k → k < low + n → IfSome (f k) P) → IfSome (first_of f (numbers low n)) P
  each_first f low zero h = tt
  each_first f low (suc n) h =
      or_some P (f low) (first_of f (numbers (suc low) n)) (h low (omega arith) (omega arith)) (each_first f (suc low) n (λ k a b. h k (omega arith) (omega arith)))

  pub weaker : (Q : A → Type 0) → ((x : A) → P x → Q x) → (xs : List A) → AllByRecursion P xs → AllByRecursion Q xs
  weaker Q f [] h = tt
  weaker Q f (x ∷ xs) h = (f x h.0, weaker Q f xs h.1)
