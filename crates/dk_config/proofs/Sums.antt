-- Sums over numbers.
use Rattle.std.proofs.Common.{ℕ, zero, suc, ◌≡◌, ◌+◌, ◌*◌, ◌<◌, ◌≤◌, inl, inr, List, [], ◌∷◌, length, refl, sym, ap, ◌∙◌, arith, ◌-◌}
use Rattle.std.specs.Prelude.{sum_by, slice_get}
use Rattle.std.specs.Option.{option_map_or}
use Rattle.std.proofs.lemmas.List.Sums.{sum_by-cons}
use Rattle.std.proofs.lemmas.Bool.{cases_eq}
use Rattle.dk_config.specs.Sums.{sum_from, sum_every}

pub sum_from-le : (low n : ℕ) (f g : ℕ → ℕ) → ((k : ℕ) → low ≤ k → k < low + n → f k ≤ g k) → sum_from low n f ≤ sum_from low n g
sum_from-le low zero f g le = omega arith
sum_from-le low (suc n) f g le =
    let first : f low ≤ g low = le low (omega arith) (omega arith) in
    let rest : sum_from (suc low) n f ≤ sum_from (suc low) n g = sum_from-le (suc low) n f g (λ k a b. le k (omega arith) (omega arith)) in
    omega arith

pub sum_from-add : (low n : ℕ) (f g : ℕ → ℕ) → sum_from low n (λ k. f k + g k) ≡ sum_from low n f + sum_from low n g
sum_from-add low zero f g = refl
sum_from-add low (suc n) f g = let rest = sum_from-add (suc low) n f g in omega arith

-- a sum is at least each of its terms
pub sum_from-term : (low n : ℕ) (f : ℕ → ℕ) (k : ℕ) → low ≤ k → k < low + n → f k ≤ sum_from low n f
sum_from-term low zero f k a b = absurd (omega arith)
sum_from-term low (suc n) f k a b =
    elim (cases_eq low k) [
      | inl same ↦ let e : f k ≡ f low = ap f (sym same) in omega arith
      | inr other ↦ let rest : f k ≤ sum_from (suc low) n f = sum_from-term (suc low) n f k (omega arith) (omega arith) in omega arith
    ]

pub sum_every-at_most : (step first n : ℕ) (f : ℕ → ℕ) (b : ℕ) → ((s : ℕ) → f s ≤ b) → sum_every step first n f ≤ n * b
sum_every-at_most step first zero f b le = omega arith
sum_every-at_most step first (suc n) f b le =
    let here : f first ≤ b = le first in
    let rest : sum_every step (first + step) n f ≤ n * b = sum_every-at_most step (first + step) n f b le in
    let whole : suc n * b ≡ n * b + b = omega arith in
    omega arith

pub sum_from-same : (low n : ℕ) (f g : ℕ → ℕ) → ((k : ℕ) → low ≤ k → k < low + n → f k ≡ g k) → sum_from low n f ≡ sum_from low n g
sum_from-same low n f g same =
    let up = sum_from-le low n f g (λ k a b. let e = same k a b in omega arith) in
    let down = sum_from-le low n g f (λ k a b. let e = same k a b in omega arith) in
    omega arith

pub sum_from-eq : (low n : ℕ) (f g : ℕ → ℕ) → ((k : ℕ) → f k ≡ g k) → sum_from low n f ≡ sum_from low n g
sum_from-eq low n f g same = sum_from-same low n f g (λ k a b. same k)

pub sum_from-zero : (low n : ℕ) → sum_from low n (λ k. 0) ≡ 0
sum_from-zero low zero = refl
sum_from-zero low (suc n) = let rest = sum_from-zero (suc low) n in omega arith

-- a sum of sums, either way round
pub sum_from-swap : (a m b n : ℕ) (f : ℕ → ℕ → ℕ) → sum_from a m (λ i. sum_from b n (f i)) ≡ sum_from b n (λ k. sum_from a m (λ i. f i k))
sum_from-swap a zero b n f = sym (sum_from-zero b n)
sum_from-swap a (suc m) b n f =
    ap (λ k. sum_from b n (f a) + k) (sum_from-swap (suc a) m b n f)
    ∙ sym (sum_from-add b n (f a) (λ k. sum_from (suc a) m (λ i. f i k)))

pub sum_from-times : (low n : ℕ) (f : ℕ → ℕ) (b : ℕ) → sum_from low n f * b ≡ sum_from low n (λ k. f k * b)
sum_from-times low zero f b = omega arith
sum_from-times low (suc n) f b = let rest = sum_from-times (suc low) n f b in omega arith

pub sum_from-later : (low n : ℕ) (f : ℕ → ℕ) → sum_from (suc low) n f ≡ sum_from low n (λ k. f (suc k))
sum_from-later low zero f = refl
sum_from-later low (suc n) f = let rest = sum_from-later (suc low) n f in omega arith

-- a sum over rows is a sum over their places
pub sum_by-places : {X : Type 0} (f : X → ℕ) (xs : List X) → sum_by f xs ≡ sum_from 0 (length xs) (λ p. option_map_or f (slice_get xs p) 0)
sum_by-places f [] = refl
sum_by-places f (x ∷ xs) =
    let rest = sum_by-places f xs in
    let later = sum_from-later 0 (length xs) (λ p. option_map_or f (slice_get (x ∷ xs) p) 0) in
    sum_by-cons f x xs ∙ omega arith

pub sum-next : (f : ℕ → ℕ) (p n : ℕ) → p < n → sum_from p (n - p) f ≡ f p + sum_from (p + 1) (n - (p + 1)) f
sum-next f p n less =
    let e : n - p ≡ suc (n - (p + 1)) = omega arith in
    let next : suc p ≡ p + 1 = omega arith in
    ap (λ k. sum_from p k f) e ∙ ap (λ q. f p + sum_from q (n - (p + 1)) f) next

pub sum_every-as : (f g : ℕ → ℕ) (step first n : ℕ) → ((j : ℕ) → f j ≡ g j) → sum_every step first n f ≡ sum_every step first n g
sum_every-as f g step first zero same = refl
sum_every-as f g step first (suc n) same = let here = same first in let rest = sum_every-as f g step (first + step) n same in omega (arith, here, rest)
