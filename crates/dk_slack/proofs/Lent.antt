-- The wishes after so many ticks of slack of a node, after which something of its own is left.
use Rattle.dk_slack.proofs.Names.{◌≡◌, ◌∙◌, ◌-◌, ◌<◌, ℕ, suc, false, List, [], ◌∷◌, map, inl, inr, refl, ap, arith, slice_get, get_or, ◌==◌, if◌then◌else◌, find, nat_lt, option_map_or, option_or, cases_Bool, nat_tests, slice_get-map, Wish, dropped, first_node, is_entering, is_of, lowered, lowered_for, spent, spent_for, want, wish_of}
use Rattle.std.proofs.Common.{Option, Some, None, option_map}
use Rattle.std.proofs.Math.ListN.{get_or-map}

module _ (node n : ℕ) where
  -- its wish, so much lower
  abbrev less : Wish → Wish
  less w = record { node = w.node; amount = w.amount - n; entering = w.entering - n }

  kept : (w : Wish) → (lowered_for node n w).node ≡ w.node
  kept w = grind (arith, nat_tests)

  find-lowered : (ws : List Wish) → find (is_of node) (map (lowered_for node n) ws) ≡ option_map less (find (is_of node) ws)
  find-lowered [] = refl
  find-lowered (w ∷ ws) = grind (arith, nat_tests, kept, find-lowered ws)

  wish-lowered : (wishes : List (List Wish)) → wish_of node (spent_for node n wishes) ≡ option_map less (wish_of node wishes)
  wish-lowered [] = refl
  wish-lowered (ws ∷ wishes) = rw (find-lowered ws, wish-lowered wishes) (first (find (is_of node) ws))
    where
      first : (o : Option Wish) → option_or (option_map less o) (option_map less (wish_of node wishes)) ≡ option_map less (option_or o (wish_of node wishes))
      first None = refl
      first (Some w) = refl

  pub want-lowered : (wishes : List (List Wish)) → want node (spent_for node n wishes) ≡ want node wishes - n
  want-lowered wishes = ap (λ o. option_map_or (λ (w : Wish). w.amount) o 0) (wish-lowered wishes) ∙ of (wish_of node wishes)
    where
      of : (o : Option Wish) → option_map_or (λ (w : Wish). w.amount) (option_map less o) 0 ≡ option_map_or (λ (w : Wish). w.amount) o 0 - n
      of None = omega arith
      of (Some w) = refl

  -- its switch in stays over
  pub entered-lowered : (wishes : List (List Wish)) → is_entering node wishes ≡ false → is_entering node (spent_for node n wishes) ≡ false
  entered-lowered wishes over = ap (λ o. option_map_or (λ (w : Wish). nat_lt 0 w.entering) o false) (wish-lowered wishes) ∙ of (wish_of node wishes) over
    where
      of : (o : Option Wish) → option_map_or (λ (w : Wish). nat_lt 0 w.entering) o false ≡ false
          → option_map_or (λ (w : Wish). nat_lt 0 w.entering) (option_map less o) false ≡ false
      of None over = refl
      of (Some w) over = grind (arith, nat_tests, over)

  -- and the order of the wishes
  pub first-lowered : (k : ℕ) (wishes : List (List Wish)) → first_node k (spent_for node n wishes) ≡ first_node k wishes
  first-lowered k wishes =
      ap (λ (ws : List Wish). option_map (λ (w : Wish). w.node) (slice_get ws 0)) (get_or-map (map (lowered_for node n)) wishes k [])
      ∙ ap (option_map (λ (w : Wish). w.node)) (slice_get-map (lowered_for node n) (get_or wishes k []) 0)
      ∙ same (slice_get (get_or wishes k []) 0)
    where
      same : (o : Option Wish) → option_map (λ (w : Wish). w.node) (option_map (lowered_for node n) o) ≡ option_map (λ (w : Wish). w.node) o
      same None = refl
      same (Some w) = ap Some (kept w)

map-twice : {A : Type 0} (f g h : A → A) → ((a : A) → f (g a) ≡ h a) → (xs : List A) → map f (map g xs) ≡ map h xs
map-twice f g h same [] = refl
map-twice f g h same (x ∷ xs) = rw (same x, map-twice f g h same xs) refl

map-itself : {A : Type 0} (f : A → A) → ((a : A) → f a ≡ a) → (xs : List A) → map f xs ≡ xs
map-itself f same [] = refl
map-itself f same (x ∷ xs) = rw (same x, map-itself f same xs) refl

-- one tick more
one-lower : (node n : ℕ) (w : Wish) → lowered node (lowered_for node n w) ≡ lowered_for node (suc n) w
one-lower node n w = grind (arith, nat_tests, kept)

pub spent-more : (node n : ℕ) (wishes : List (List Wish)) → suc n < want node wishes → spent node (spent_for node n wishes) ≡ spent_for node (suc n) wishes
spent-more node n wishes more =
    let ws = spent_for node n wishes in
    let left : (want node ws == 1) ≡ false = ap (λ k. k == 1) (want-lowered node n wishes) ∙ apart (want node wishes) more in
    ap (λ b. if b then dropped node ws else map (map (lowered node)) ws) left
    ∙ map-twice (map (lowered node)) (map (lowered_for node n)) (map (lowered_for node (suc n))) (map-twice (lowered node) (lowered_for node n) (lowered_for node (suc n)) (one-lower node n)) wishes
  where
    apart : (a : ℕ) → suc n < a → (a - n == 1) ≡ false
    apart a more = grind (arith, nat_tests)

-- and none
pub spent-none : (node : ℕ) (wishes : List (List Wish)) → spent_for node 0 wishes ≡ wishes
spent-none node = map-itself (map (lowered_for node 0)) (map-itself (lowered_for node 0) none)
  where
    none : (w : Wish) → lowered_for node 0 w ≡ w
    none w =
        let amount : w.amount - 0 ≡ w.amount = omega arith in
        let entering : w.entering - 0 ≡ w.entering = omega arith in
        elim (cases_Bool (is_of node w)) [
          | inl own ↦ rw (own, amount, entering) refl
          | inr other ↦ rw other refl
        ]
