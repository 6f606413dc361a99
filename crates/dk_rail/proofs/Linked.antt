-- The queues that stand in the cells of a rail, before and after a change of the cells.
use Rattle.dk_rail.proofs.Names.{◌≡◌, ◌≢◌, ℕ, zero, suc, ◌+◌, ◌<◌, ◌≤◌, Bool, true, false, cond, not, ◌||◌, eqb, List, map, length, get_or, set, replicate, slice_get, Some, IsSome, IsNone, refl, sym, ap, ◌∙◌, inl, inr, arith, ext_get_or, length-set, get_or-set_same, get_or-set_other, position_from, AllByRecursion, nat_lt, eq-eqb, eqb-true, le-ltb, lt-ltb, eqb_tells, get_or-map, length-map, get_or-replicate, length-replicate, IsDistinct-head, IsDistinct-tail, IsDistinct-cons, queue_at, holds, holder, pushed, without, unlinked, next, prev, owner, follow, list_at, lists_of, IsPath, IsLinked, IsPushed, IsUnlinked, nat_tests}
use Rattle.std.proofs.Common.{◌*◌, [], ◌∷◌, ◌++◌, None, subst}
use Rattle.std.specs.List.{IsDistinct}
use Rattle.std.proofs.lemmas.List.FromFn.{length-map-range_with_len, get_or-map-range_with_len}
use Rattle.std.proofs.lemmas.List.Folds.{list_any-append}
use Rattle.std.proofs.lemmas.Map.Views.{any-filter_same}
use Rattle.std.proofs.lemmas.Map.Steps.{length-le_from_distinct_below}
use Rattle.dk_rail.proofs.Rings.{Apart, differ, apart-holds, last_step, last_of, between, IsBetween, follow-path, path_beside, path_pushed, path_without}

all_append : (P : ℕ → Type 0) (xs : List ℕ) (x : ℕ) → AllByRecursion P xs → P x → AllByRecursion P (xs ++ x ∷ [])
all_append P [] x h p = (p, tt)
all_append P (y ∷ ys) x h p = (h.0, all_append P ys x h.1 p)

unequal : (x y : ℕ) → eqb x y ≡ false → eqb y x ≡ false
unequal x y h = elim (eqb_tells y x) [ inl hit ↦ absurd (differ x y h (sym hit.1)) | inr miss ↦ miss.0 ]

distinct_append : (xs : List ℕ) (x : ℕ) → IsDistinct eqb xs → Apart x xs → IsDistinct eqb (xs ++ x ∷ [])
distinct_append [] x h apart = grind (arith, nat_tests, IsDistinct-cons, all_append, IsDistinct-head, unequal, IsDistinct-tail)
distinct_append (y ∷ ys) x h apart = grind (arith, nat_tests, IsDistinct-cons, all_append, IsDistinct-head, unequal, IsDistinct-tail, distinct_append ys)

all_without : (P : ℕ → Type 0) (x : ℕ) (xs : List ℕ) → AllByRecursion P xs → AllByRecursion P (without x xs)
all_without P x [] h = tt
all_without P x (y ∷ ys) h = grind (arith, nat_tests, all_without P x ys)

distinct_without : (x : ℕ) (xs : List ℕ) → IsDistinct eqb xs → IsDistinct eqb (without x xs)
distinct_without x [] h = h
distinct_without x (y ∷ ys) h = grind (arith, nat_tests, IsDistinct-tail, IsDistinct-cons, all_without, IsDistinct-head, distinct_without x ys)

holds_without : (x y : ℕ) (xs : List ℕ) → y ≢ x → holds y xs ≡ true → holds y (without x xs) ≡ true
holds_without x y xs other h =
    any-filter_same (λ z. eqb y z) (λ z. not (eqb x z)) true (λ z hit. elim (eqb_tells x z) [ inl at ↦ absurd (other (eqb-true y z hit ∙ sym at.1)) | inr miss ↦ rw miss.0 refl ]) xs ∙ h

module _ (c : List ℕ) (n q : ℕ) (lists : ℕ → List ℕ) (linked : IsLinked c n q lists) where
  -- the list of each queue is the one that is followed in the cells
  pub list-at_is : (k : ℕ) → k < q → list_at c n k ≡ lists k
  list-at_is k h =
      let ring = linked.rings k h in
      let few : length (lists k) ≤ n = length-le_from_distinct_below (lists k) n (linked.apart k h) (λ x in_it. (between c n (n + q) k x (n + k) (lists k) (n + k) ring in_it).low) in
      follow-path c n (n + q) k n (n + k) (lists k) (n + k) ring (omega arith) few

  pub linked_in_cells : IsLinked c n q (list_at c n)
  linked_in_cells = record {
    covers = linked.covers;
    rings = λ k h. subst (λ (xs : List ℕ). IsPath c n (n + q) k (n + k) xs (n + k)) (sym (list-at_is k h)) (linked.rings k h);
    apart = λ k h. subst (λ (xs : List ℕ). IsDistinct eqb xs) (sym (list-at_is k h)) (linked.apart k h);
    owned = λ x k low own. let old = linked.owned x k low own in (old.0, ap (λ (xs : List ℕ). holds x xs) (list-at_is k old.0) ∙ old.1);
  }

  pub held_between : (x k : ℕ) → k < q → holds x (lists k) ≡ true → IsBetween c n (n + q) k (n + k) x (n + k)
  held_between x k h in_it = between c n (n + q) k x (n + k) (lists k) (n + k) (linked.rings k h) in_it

  -- a node with another owner is not in the queue
  pub other_owner : (x k : ℕ) → k < q → owner c (n + q) x ≢ suc k → holds x (lists k) ≡ false
  other_owner x k h other = elim (holds x (lists k)) as (λ b. holds x (lists k) ≡ b → b ≡ false) [ true ↦ λ e. absurd (other (held_between x k h e).owned) | false ↦ λ e. refl ] refl

  pub last_in : (k : ℕ) → k < q → prev c (n + q) (n + k) < n + q
  last_in k h = elim (last_of c n (n + q) k (n + k) (lists k) (n + k) (linked.rings k h)) [ inl e ↦ omega (arith, e) | inr o ↦ omega (arith, o.0) ]

  pub last_leads : (k : ℕ) → k < q → next c (prev c (n + q) (n + k)) ≡ n + k
  last_leads k h = last_step c n (n + q) k (n + k) (lists k) (n + k) (linked.rings k h)

  pub last_other : (x k : ℕ) → k < q → x < n → owner c (n + q) x ≡ 0 → prev c (n + q) (n + k) ≢ x
  last_other x k h low free e =
      elim (last_of c n (n + q) k (n + k) (lists k) (n + k) (linked.rings k h)) [
        | inl at ↦ omega (arith, at, e)
        | inr o ↦ omega (arith, o.1, free, ap (λ (i : ℕ). owner c (n + q) i) e)
      ]

  abbrev with_node : ℕ → ℕ → ℕ → List ℕ
  with_node k x j = cond (eqb j k) (lists j ++ x ∷ []) (lists j)

  with_same : (k x j : ℕ) → j ≡ k → with_node k x j ≡ lists j ++ x ∷ []
  with_same k x j e = rw (eq-eqb j k e) refl

  -- a free node is put behind the last one of queue k
  module _ (d : List ℕ) (k x : ℕ) (here : k < q) (low : x < n) (free : owner c (n + q) x ≡ 0) (p : IsPushed c d (n + q) (n + k) x k) where
    abbrev m : ℕ
    m = n + q

    apart_from : (j : ℕ) → j < q → Apart x (lists j)
    apart_from j h = apart-holds x (lists j) (other_owner x j h (λ e. omega arith))

    ring_pushed : IsPath d n m k (n + k) (lists k ++ x ∷ []) (n + k)
    ring_pushed = path_pushed c d n m (n + k) x k p linked.covers (omega arith) (omega arith) low (last_leads k here) (n + k) (lists k) (linked.rings k here) (omega arith) (λ e. omega arith) (apart_from k here)

    pub linked_pushed : IsLinked d n q (with_node k x)
    linked_pushed = record {
      covers = p.covers ∙ linked.covers;
      rings = λ j h. elim (eqb_tells j k) [
        | inl hit ↦ rw hit.0 (let P : ℕ → Type 0 = λ i. IsPath d n m i (n + i) (lists i ++ x ∷ []) (n + i) in subst P (sym hit.1) ring_pushed)
        | inr miss ↦ rw miss.0 (path_beside c d n m (n + k) x k p linked.covers (omega arith) (omega arith) low (last_leads k here) j (n + j) (lists j) (n + j) (linked.rings j h) (omega arith) (omega arith) (λ e. omega arith) (λ e. omega arith) (λ e. miss.1 (omega (arith, e))) (apart_from j h))
      ];
      apart = λ j h. elim (eqb j k) as (λ t. IsDistinct eqb (cond t (lists j ++ x ∷ []) (lists j))) [ true ↦ distinct_append (lists j) x (linked.apart j h) (apart_from j h) | false ↦ linked.apart j h ];
      owned = λ y j y_low own. elim (eqb_tells y x) [
        | inl hit ↦ grind (arith, nat_tests, eq-eqb, list_any-append)
        | inr miss ↦
            let old = linked.owned y j y_low (sym (p.owner_other y (omega (arith, linked.covers)) miss.1) ∙ own) in
            (old.0, elim (eqb j k) as (λ t. holds y (cond t (lists j ++ x ∷ []) (lists j)) ≡ true) [ true ↦ list_any-append (λ z. eqb y z) (lists j) (x ∷ []) ∙ rw old.1 refl | false ↦ old.1 ])
      ];
    }
      where
        at_end : (a b : Bool) → b ≡ true → (a || (b || false)) ≡ true
        at_end true b e = refl
        at_end false b e = rw e refl

  -- a node of queue k is taken out
  module _ (d : List ℕ) (k x : ℕ) (here : k < q) (in_it : holds x (lists k) ≡ true) (u : IsUnlinked c d (n + q) x) where
    abbrev mid : IsBetween c n (n + q) k (n + k) x (n + k)
    mid = held_between x k here in_it

    pub linked_unlinked : IsLinked d n q (λ j. without x (lists j))
    linked_unlinked =
        let low : x < n = mid.low in
        record {
          covers = u.covers ∙ linked.covers;
          rings = λ j h. path_without c d n (n + q) x j u linked.covers (omega arith) mid.low mid.to_node mid.from_node (n + j) (lists j) (n + j) (linked.rings j h) (omega arith) (omega arith) (λ e. omega arith) (λ e. omega arith) (linked.apart j h);
          apart = λ j h. distinct_without x (lists j) (linked.apart j h);
          owned = λ y j y_low own.
              let other : y ≢ x = λ e. omega (arith, own, u.owner_node, ap (λ (i : ℕ). owner d (n + q) i) e) in
              let old = linked.owned y j y_low (sym (u.owner_other y (omega (arith, linked.covers)) other) ∙ own) in
              (old.0, holds_without x y (lists j) other old.1);
        }

-- the lists of all queues
pub length-lists_of : (c : List ℕ) (n q : ℕ) → length (lists_of c n q) ≡ q
length-lists_of c n q = length-map-range_with_len (list_at c n) 0 q

pub queue-at_lists : (c : List ℕ) (n q k : ℕ) → k < q → queue_at (lists_of c n q) k ≡ list_at c n k
queue-at_lists c n q k h = get_or-map-range_with_len (list_at c n) 0 q k k [] h (omega arith)

pub lists_pushed : (c d : List ℕ) (n q k x : ℕ) → IsLinked c n q (list_at c n) → k < q → x < n → owner c (n + q) x ≡ 0 → IsPushed c d (n + q) (n + k) x k
    → IsLinked d n q (list_at d n) × (lists_of d n q ≡ pushed (lists_of c n q) k x)
lists_pushed c d n q k x linked here low free p =
    let new = linked_pushed c n q (list_at c n) linked d k x here low free p in
    let many : length (lists_of c n q) ≡ q = length-lists_of c n q in
    let v : List ℕ = queue_at (lists_of c n q) k ++ x ∷ [] in (
      linked_in_cells d n q _ new,
      ext_get_or [] (lists_of d n q) (set (lists_of c n q) k v) (length-lists_of d n q ∙ sym (length-set (lists_of c n q) k v ∙ many)) (λ i inside.
          let h : i < q = omega (arith, length-lists_of d n q) in
          queue-at_lists d n q i h ∙ list-at_is d n q _ new i h ∙ elim (eqb_tells i k) [
            | inl hit ↦ rw hit.0 (let P : ℕ → Type 0 = λ j. list_at c n j ++ x ∷ [] ≡ get_or (set (lists_of c n q) k v) j [] in
                subst P (sym hit.1) (sym (get_or-set_same (lists_of c n q) k v [] (omega arith) ∙ ap (λ (xs : List ℕ). xs ++ x ∷ []) (queue-at_lists c n q k here))))
            | inr miss ↦ rw miss.0 (sym (get_or-set_other (lists_of c n q) k i v [] miss.1 ∙ queue-at_lists c n q i h))
          ]),
    )

pub lists_unlinked : (c d : List ℕ) (n q k x : ℕ) → IsLinked c n q (list_at c n) → k < q → holds x (list_at c n k) ≡ true → IsUnlinked c d (n + q) x
    → IsLinked d n q (list_at d n) × (lists_of d n q ≡ unlinked (lists_of c n q) x)
lists_unlinked c d n q k x linked here in_it u =
    let new = linked_unlinked c n q (list_at c n) linked d k x here in_it u in
    let many : length (lists_of c n q) ≡ q = length-lists_of c n q in (
      linked_in_cells d n q _ new,
      ext_get_or [] (lists_of d n q) (map (without x) (lists_of c n q)) (length-lists_of d n q ∙ sym (length-map (lists_of c n q) (without x) ∙ many)) (λ i inside.
          let h : i < q = omega (arith, length-lists_of d n q) in
          queue-at_lists d n q i h ∙ list-at_is d n q _ new i h ∙ sym (get_or-map (without x) (lists_of c n q) i [] [] (omega arith) ∙ ap (without x) (queue-at_lists c n q i h))),
    )

-- the first list that passes, where one alone does
one_passes : (p : List ℕ → Bool) (i : ℕ) (ls : List (List ℕ)) (k : ℕ) → k < length ls → p (get_or ls k []) ≡ true → ((j : ℕ) → j < length ls → j ≢ k → p (get_or ls j []) ≡ false) → position_from p i ls ≡ Some (i + k)
one_passes p i [] k inside hit miss = absurd (omega arith)
one_passes p i (l ∷ ls) zero inside hit miss = rw hit (ap (λ (a : ℕ). Some a) (omega arith))
one_passes p i (l ∷ ls) (suc k) inside hit miss =
    rw (miss 0 (omega arith) (λ e. omega arith)) (one_passes p (i + 1) ls k (omega arith) hit (λ j j_in other. miss (suc j) (omega arith) (λ e. other (omega arith))) ∙ ap (λ (a : ℕ). Some a) (omega arith))

pub some_passes : (p : List ℕ → Bool) (i : ℕ) (ls : List (List ℕ)) → IsSome (position_from p i ls) → (j : ℕ) × (j < length ls) × (p (get_or ls j []) ≡ true)
some_passes p i [] h = absurd (cc)
some_passes p i (l ∷ ls) h =
    elim (p l) as (λ t. p l ≡ t → IsSome (cond t (Some i) (position_from p (i + 1) ls)) → (j : ℕ) × (j < length (l ∷ ls)) × (p (get_or (l ∷ ls) j []) ≡ true))
    [ true ↦ λ e g. (0, omega arith, e) | false ↦ λ e g. let there = some_passes p (i + 1) ls g in (suc there.0, omega (arith, there.1), there.2) ] refl h

module _ (c : List ℕ) (n q x : ℕ) (linked : IsLinked c n q (list_at c n)) (low : x < n) where
  holder_some : (k : ℕ) → owner c (n + q) x ≡ suc k → holder (lists_of c n q) x ≡ Some k
  holder_some k own =
      let old = linked.owned x k low own in
      one_passes (holds x) 0 (lists_of c n q) k (omega (arith, length-lists_of c n q, old.0)) (ap (holds x) (queue-at_lists c n q k old.0) ∙ old.1) (λ j inside other.
      let h : j < q = omega (arith, length-lists_of c n q) in
      ap (holds x) (queue-at_lists c n q j h) ∙ other_owner c n q (list_at c n) linked x j h (λ e. other (omega arith)))
      ∙ ap (λ (a : ℕ). Some a) (omega arith)

  -- a node that miss list holds has miss owner
  pub free_owner : IsNone (holder (lists_of c n q) x) → owner c (n + q) x ≡ 0
  free_owner none =
      elim (owner c (n + q) x) as (λ o. owner c (n + q) x ≡ o → o ≡ 0) [ zero ↦ λ e. refl | suc k ↦ λ e. absurd (let s = holder_some k e in cc) ] refl

-- a node that some list holds, with the queue that it is in
pub held_in : (c : List ℕ) (n q x : ℕ) → IsLinked c n q (list_at c n) → IsSome (holder (lists_of c n q) x) → (k : ℕ) × (k < q) × (holds x (list_at c n k) ≡ true)
held_in c n q x linked some =
    let there = some_passes (holds x) 0 (lists_of c n q) some in
    let h : there.0 < q = omega (arith, length-lists_of c n q, there.1) in
    (there.0, h, sym (ap (holds x) (queue-at_lists c n q there.0 h)) ∙ there.2)

-- the front of a followed queue
pub no_node : (c : List ℕ) (n k : ℕ) → n ≤ next c (n + k) → list_at c n k ≡ []
no_node c n k past = empty n (next c (n + k)) past
  where
    empty : (fuel a : ℕ) → n ≤ a → follow c n fuel a ≡ []
    empty zero a h = refl
    empty (suc fuel) a h = let ends : nat_lt a n ≡ false = le-ltb a n h in rw ends refl

pub front_none : (c : List ℕ) (n k : ℕ) → n ≤ next c (n + k) → slice_get (list_at c n k) 0 ≡ None
front_none c n k past = ap (λ (xs : List ℕ). slice_get xs 0) (no_node c n k past)

pub front_some : (c : List ℕ) (n k : ℕ) → next c (n + k) < n → slice_get (list_at c n k) 0 ≡ Some (next c (n + k))
front_some c n k low = first n (next c (n + k)) low (omega arith)
  where
    first : (fuel a : ℕ) → a < n → 0 < fuel → slice_get (follow c n fuel a) 0 ≡ Some a
    first zero a h some = absurd (omega arith)
    first (suc fuel) a h some = let goes : nat_lt a n ≡ true = lt-ltb a n h in rw goes refl

none_distinct : IsDistinct eqb []
unfolding IsDistinct
none_distinct = tt

-- cells in which each queue is empty
pub record IsFresh (c : List ℕ) (n q : ℕ) : Type 0 where
  pub covers : length c ≡ 2 * (n + q) + n
  pub closed : (i : ℕ) → n ≤ i → i < n + q → (next c i ≡ i) × (prev c (n + q) i ≡ i)
  pub free : (x : ℕ) → x < n → owner c (n + q) x ≡ 0

pub lists_fresh : (c : List ℕ) (n q : ℕ) → IsFresh c n q → IsLinked c n q (list_at c n) × (lists_of c n q ≡ replicate q [])
lists_fresh c n q fresh =
    let empty : IsLinked c n q (λ k. []) = grind (arith, nat_tests, none_distinct) in (
      linked_in_cells c n q (λ k. []) empty,
      ext_get_or [] (lists_of c n q) (replicate q []) (length-lists_of c n q ∙ sym (length-replicate q [])) (λ k inside.
          let h : k < q = omega (arith, length-lists_of c n q) in
          queue-at_lists c n q k h ∙ list-at_is c n q (λ k'. []) empty k h ∙ sym (get_or-replicate q k [] [] h)),
    )
