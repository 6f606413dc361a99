-- What is met on the way from the front of a queue.
use Rattle.std.proofs.Common.{◌≡◌, ℕ, zero, suc, ◌<◌, ◌≤◌, List, [], ◌∷◌, drop, slice_get, Some, None, refl, sym, ap, subst, arith}
use Rattle.dk_rail.specs.Links.{next, IsPath}

module _ (c : List ℕ) (n m k : ℕ) where
  -- behind the end that is reached after i nodes stands node i
  pub walk-on : (a b i : ℕ) (xs : List ℕ) → IsPath c n m k a (drop i xs) b → n ≤ b → next c a < n → IsPath c n m k (next c a) (drop (suc i) xs) b × (slice_get xs i ≡ Some (next c a))
  walk-on a b zero [] p high low = absurd (omega (arith, p.after, high, low))
  walk-on a b (suc i) [] p high low = absurd (omega (arith, p.after, high, low))
  walk-on a b zero (x ∷ xs) p high low = (subst (λ (y : ℕ). IsPath c n m k y xs b) (sym p.0.after) p.3, ap (λ (y : ℕ). Some y) (sym p.0.after))
  walk-on a b (suc i) (x ∷ xs) p high low = walk-on a b i xs p high low

  -- where the end of the queue stands behind it, there are no more
  pub walk-ends : (a b i j : ℕ) (xs : List ℕ) → IsPath c n m k a (drop i xs) b → n ≤ next c a → i ≤ j → slice_get xs j ≡ None
  walk-ends a b i zero [] p high past = refl
  walk-ends a b i (suc j) [] p high past = refl
  walk-ends a b zero j (x ∷ xs) p high past = absurd (omega (arith, p.0.after, p.1, high))
  walk-ends a b (suc i) zero (x ∷ xs) p high past = absurd (omega (arith, past))
  walk-ends a b (suc i) (suc j) (x ∷ xs) p high past = walk-ends a b i j xs p high (omega (arith, past))
