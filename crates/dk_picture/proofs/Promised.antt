-- The bounds of the mains so far, and that of one main more.
use Rattle.dk_picture.proofs.Names.{ℕ, ◌≡◌, ◌∙◌, ◌+◌, ◌<◌, ◌++◌, [], ◌∷◌, List, Bool, true, false, length, ap, sym, subst, refl, arith, slice_get, nat_lt, ltb-true, ltb-false, get_front, get_seam, Configuration, Bound, HasBound, IsBound}

has_front : (c : Configuration) (bs : List Bound) (b : Bound) (p : ℕ) → p < length bs → HasBound c bs p → HasBound c (bs ++ b ∷ []) p
has_front c bs b p less has = (has.0, get_front bs (b ∷ []) p less ∙ has.1, has.2)

has_last : (c : Configuration) (bs : List Bound) (b : Bound) (n : ℕ) → length bs ≡ n → IsBound c n b → HasBound c (bs ++ b ∷ []) n
has_last c bs b n count is = (b, ap (λ i. slice_get (bs ++ b ∷ []) i) (sym count) ∙ get_seam bs b [], is)

pub one_more : (c : Configuration) (bs : List Bound) (b : Bound) (n : ℕ) → length bs ≡ n → ((p : ℕ) → p < n → HasBound c bs p) → IsBound c n b
    → (p : ℕ) → p < n + 1 → HasBound c (bs ++ b ∷ []) p
one_more c bs b n count so_far is p less = go (nat_lt p n) refl
  where
    go : (t : Bool) → nat_lt p n ≡ t → HasBound c (bs ++ b ∷ []) p
    go true low =
        let before : p < n = ltb-true _ _ low in
        has_front c bs b p (omega (arith, before, count)) (so_far p before)
    go false high =
        let over = ltb-false _ _ high in
        let same : n ≡ p = omega (arith, over, less) in
        subst (HasBound c (bs ++ b ∷ [])) same (has_last c bs b n count is)
