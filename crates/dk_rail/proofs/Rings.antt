-- What a path of ends tells, and what stays of it in cells that were changed.
use Rattle.dk_rail.proofs.Names.{◌≡◌, ◌≢◌, ◌⊎◌, ℕ, zero, suc, ◌+◌, ◌<◌, ◌≤◌, true, false, eqb, List, length, refl, sym, ap, ◌∙◌, inl, inr, arith, nat_lt, AllByRecursion, IsDistinct, eq-eqb, eqb_tells, Decides-ltb, nat_tests, IsDistinct-head, IsDistinct-tail, holds, without, next, prev, owner, follow, IsStep, IsPath, IsPushed, IsUnlinked}
use Rattle.std.proofs.Common.{◌*◌, [], ◌∷◌, ◌++◌, subst}

-- the node is none of the list
abbrev pub Apart : ℕ → List ℕ → Type 0
Apart x xs = AllByRecursion (λ y. eqb x y ≡ false) xs

pub differ : (x y : ℕ) → eqb x y ≡ false → x ≢ y
differ x y miss e = cc (eq-eqb x y e)

pub apart-holds : (x : ℕ) (xs : List ℕ) → holds x xs ≡ false → Apart x xs
apart-holds x [] h = tt
apart-holds x (y ∷ ys) h = grind (arith, nat_tests, eqb_tells, apart-holds x ys)

not_below : (a n : ℕ) → n ≤ a → nat_lt a n ≡ false
not_below a n h = grind (arith, nat_tests)

pub without-apart : (x : ℕ) (xs : List ℕ) → Apart x xs → without x xs ≡ xs
without-apart x [] h = refl
without-apart x (y ∷ ys) h = rw h.0 (ap (λ (zs : List ℕ). y ∷ zs) (without-apart x ys h.1))

module _ (c : List ℕ) (n m k : ℕ) where
  -- the end before the last one leads to it
  pub last_step : (a : ℕ) (xs : List ℕ) (b : ℕ) → IsPath c n m k a xs b → next c (prev c m b) ≡ b
  last_step a [] b h = subst (λ (i : ℕ). next c i ≡ b) (sym h.before) h.after
  last_step a (x ∷ xs) b h = last_step x xs b h.3

  pub first_step : (a : ℕ) (xs : List ℕ) (b : ℕ) → IsPath c n m k a xs b → prev c m (next c a) ≡ a
  first_step a [] b h = subst (λ (i : ℕ). prev c m i ≡ a) (sym h.after) h.before
  first_step a (x ∷ xs) b h = subst (λ (i : ℕ). prev c m i ≡ a) (sym h.0.after) h.0.before

  -- the end i is a, or a node of the queue
  abbrev pub IsOf : ℕ → ℕ → Type 0
  IsOf a i = (i ≡ a) ⊎ ((i < n) × (owner c m i ≡ suc k))

  of_node : (a x i : ℕ) → x < n → owner c m x ≡ suc k → IsOf x i → IsOf a i
  of_node a x i low own is = grind (arith, nat_tests)

  pub last_of : (a : ℕ) (xs : List ℕ) (b : ℕ) → IsPath c n m k a xs b → IsOf a (prev c m b)
  last_of a [] b h = inl h.before
  last_of a (x ∷ xs) b h = of_node a x (prev c m b) h.1 h.2 (last_of x xs b h.3)

  first_of : (a : ℕ) (xs : List ℕ) (b : ℕ) → IsPath c n m k a xs b → IsOf b (next c a)
  first_of a [] b h = inl h.after
  first_of a (x ∷ xs) b h = of_node b x (next c a) h.1 h.2 (inl h.0.after)

  -- a node of the path has its neighbours in the queue, and they lead to it
  pub record IsBetween (a x b : ℕ) : Type 0 where
    pub before_of : IsOf a (prev c m x)
    pub after_of : IsOf b (next c x)
    pub to_node : next c (prev c m x) ≡ x
    pub from_node : prev c m (next c x) ≡ x
    pub low : x < n
    pub owned : owner c m x ≡ suc k

  pub between : (x a : ℕ) (xs : List ℕ) (b : ℕ) → IsPath c n m k a xs b → holds x xs ≡ true → IsBetween a x b
  between x a [] b h in_it = absurd (cc)
  between x a (y ∷ ys) b h in_it = grind (arith, nat_tests, eqb_tells, first_of, first_step, of_node, between x y ys)

  -- the path is what is followed in the cells
  pub follow-path : (fuel a : ℕ) (xs : List ℕ) (b : ℕ) → IsPath c n m k a xs b → n ≤ b → length xs ≤ fuel → follow c n fuel (next c a) ≡ xs
  follow-path zero a [] b h high room = refl
  follow-path zero a (x ∷ xs) b h high room = absurd (omega arith)
  follow-path (suc fuel) a [] b h high room = grind (arith, nat_tests, not_below, Decides-ltb)
  follow-path (suc fuel) a (x ∷ xs) b h high room = grind (arith, nat_tests, not_below, Decides-ltb, follow-path fuel x xs)

-- the node x was put before the end s
module _ (c d : List ℕ) (n m s x k : ℕ) (p : IsPushed c d m s x k) (covers : length c ≡ 2 * m + n) (high : n ≤ s) (within : s < m) (low : x < n) (closes : next c (prev c m s) ≡ s) where
  -- a step that touches neither the node nor the end stays
  step_beside : (a b : ℕ) → IsStep c m a b → a < m → b < m → a ≢ x → b ≢ x → b ≢ s → IsStep d m a b
  step_beside a b h a_in b_in a_other b_other elsewhere = grind (arith, nat_tests)

  pub path_beside : (j a : ℕ) (xs : List ℕ) (b : ℕ) → IsPath c n m j a xs b → a < m → b < m → a ≢ x → b ≢ x → b ≢ s → Apart x xs → IsPath d n m j a xs b
  path_beside j a [] b h a_in b_in a_other b_other elsewhere apart = grind (arith, nat_tests, step_beside, differ)
  path_beside j a (y ∷ ys) b h a_in b_in a_other b_other elsewhere apart = grind (arith, nat_tests, step_beside, differ, path_beside j y ys)

  -- the path with the node behind its last one
  pub path_pushed : (a : ℕ) (xs : List ℕ) → IsPath c n m k a xs s → a < m → a ≢ x → Apart x xs → IsPath d n m k a (xs ++ x ∷ []) s
  path_pushed a [] h a_in other apart = grind (arith, nat_tests, differ, step_beside)
  path_pushed a (y ∷ ys) h a_in other apart = grind (arith, nat_tests, differ, step_beside, path_pushed y ys)

-- the node x was taken out
module _ (c d : List ℕ) (n m x k : ℕ) (u : IsUnlinked c d m x) (covers : length c ≡ 2 * m + n) (bounds : n ≤ m) (low : x < n) (to_node : next c (prev c m x) ≡ x) (from_node : prev c m (next c x) ≡ x) where
  -- a step that doesn't touch the node stays
  step_kept : (a b : ℕ) → IsStep c m a b → a < m → b < m → a ≢ x → b ≢ x → IsStep d m a b
  step_kept a b h a_in b_in a_other b_other = grind (arith, nat_tests)

  pub path_past : (a : ℕ) (xs : List ℕ) (b : ℕ) → IsPath c n m k a xs b → a < m → b < m → a ≢ x → b ≢ x → Apart x xs → IsPath d n m k a xs b
  path_past a [] b h a_in b_in a_other b_other apart = grind (arith, nat_tests, step_kept, differ)
  path_past a (y ∷ ys) b h a_in b_in a_other b_other apart = grind (arith, nat_tests, step_kept, differ, path_past y ys)

  -- the ends on both sides of the node are joined
  step_joined : (a b : ℕ) → IsStep c m a x → IsStep c m x b → IsStep d m a b
  step_joined a b h g = grind (arith, nat_tests)

  path_joined : (a : ℕ) (xs : List ℕ) (b : ℕ) → IsStep c m a x → IsPath c n m k x xs b → b < m → b ≢ x → Apart x xs → IsPath d n m k a xs b
  path_joined a [] b h g b_in b_other apart = step_joined a b h g
  path_joined a (y ∷ ys) b h g b_in b_other apart = grind (arith, nat_tests, differ, step_joined, path_past)

  -- the path without the node
  pub path_without : (a : ℕ) (xs : List ℕ) (b : ℕ) → IsPath c n m k a xs b → a < m → b < m → a ≢ x → b ≢ x → IsDistinct eqb xs → IsPath d n m k a (without x xs) b
  path_without a [] b h a_in b_in a_other b_other distinct = step_kept a b h a_in b_in a_other b_other
  path_without a (y ∷ ys) b h a_in b_in a_other b_other distinct =
      elim (eqb_tells x y) [
        | inl hit ↦
            let P : ℕ → Type 0 = λ z. Apart z ys in
            let apart : Apart x ys = subst P (sym hit.1) (IsDistinct-head eqb y ys distinct) in
            let G : List ℕ → Type 0 = λ zs. IsPath d n m k a zs b in
            let to : IsStep c m a x = let S : ℕ → Type 0 = λ z. IsStep c m a z in subst S (sym hit.1) h.0 in
            let on : IsPath c n m k x ys b = let S : ℕ → Type 0 = λ z. IsPath c n m k z ys b in subst S (sym hit.1) h.3 in
            let is : without x (y ∷ ys) ≡ ys = rw hit.0 (without-apart x ys apart) in
            subst G (sym is) (path_joined a ys b to on b_in b_other apart)
        | inr miss ↦
            let unlike : y ≢ x = λ e. miss.1 (sym e) in let low_y : y < n = h.1 in
            let G : List ℕ → Type 0 = λ zs. IsPath d n m k a zs b in
            let is : without x (y ∷ ys) ≡ y ∷ without x ys = rw miss.0 refl in
            subst G (sym is) (
              step_kept a y h.0 a_in (omega arith) a_other unlike,
              h.1,
              u.owner_other y (omega arith) unlike ∙ h.2,
              path_without y ys b h.3 (omega arith) b_in unlike b_other (IsDistinct-tail eqb y ys distinct),
            )
      ]
