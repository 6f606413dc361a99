-- Two sums over rows that differ in the row of one thread.
use Rattle.dk_trace.proofs.Names.{ℕ, ◌≡◌, ◌+◌, inl, inr, List, [], ◌∷◌, refl, arith, sum_by, sum_by-cons, Thread, Has, nat_tests}
use Rattle.dk_trace.proofs.Members.{sum_by-same, sum_by-zero}
use Rattle.dk_trace.proofs.Distinct.{Distinct}

pub sum-exchange : (f g : Thread → ℕ) (xs : List Thread) (x : Thread) → Distinct xs → Has xs x
    → ((y : Thread) → Has xs y → (y.id ≡ x.id → ⊥) → f y ≡ g y)
    → sum_by f xs + g x ≡ sum_by g xs + f x
sum-exchange f g [] x distinct among others = absurd among
sum-exchange f g (z ∷ zs) x distinct (inl here) others = grind (arith, nat_tests, sum_by-same, sum_by-cons)
sum-exchange f g (z ∷ zs) x distinct (inr there) others = grind (arith, nat_tests, sum_by-same, sum_by-cons, sum-exchange f g zs x distinct.1 there)

-- a sum in which one row counts
pub sum-only : (f : Thread → ℕ) (xs : List Thread) (x : Thread) → Distinct xs → Has xs x
    → ((y : Thread) → Has xs y → (y.id ≡ x.id → ⊥) → f y ≡ 0)
    → sum_by f xs ≡ f x
sum-only f xs x distinct among others =
    let both = sum-exchange f (λ y. 0) xs x distinct among others in
    let none = sum_by-zero (λ (y : Thread). 0) xs (λ y h. refl) in
    omega (arith, both, none)
