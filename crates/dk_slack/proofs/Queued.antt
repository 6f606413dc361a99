-- Which nodes are queued after a change of the queues and of a row.
use Rattle.dk_slack.proofs.Names.{◌≡◌, ◌≢◌, ℕ, zero, suc, ◌+◌, ◌<◌, Bool, true, false, cond, not, ◌&&◌, ◌||◌, eqb, List, [], ◌∷◌, length, set, refl, sym, ap, ◌∙◌, inl, inr, arith, get_or-set_same, get_or-set_other, Some, is_some, list_any, position_from, eq-eqb, lt-ltb, eqb-true, eqb_tells, holds, holder, pushed, without, unlinked, Wanted, row_of, is_queued, AreTied, nat_tests}
use Rattle.std.proofs.lemmas.List.Folds.{list_any-append}
use Rattle.std.proofs.lemmas.Map.Views.{any-filter_same}

-- a node has a queue exactly where it is queued
some_passes : (p : List ℕ → Bool) (i : ℕ) (lists : List (List ℕ)) → is_some (position_from p i lists) ≡ list_any p lists
some_passes p i [] = refl
some_passes p i (q ∷ lists) = elim (p q) as (λ t. is_some (cond t (Some i) (position_from p (i + 1) lists)) ≡ (t || list_any p lists)) [ true ↦ refl | false ↦ some_passes p (i + 1) lists ]

pub holder-queued : (lists : List (List ℕ)) (x : ℕ) → is_some (holder lists x) ≡ is_queued lists x
holder-queued lists x = some_passes (holds x) 0 lists

holds_without : (x y : ℕ) (q : List ℕ) → holds y (without x q) ≡ (not (eqb x y) && holds y q)
holds_without x y q = any-filter_same (λ z. eqb y z) (λ z. not (eqb x z)) (not (eqb x y)) (λ z hit. ap (λ (w : ℕ). not (eqb x w)) (sym (eqb-true y z hit))) q

and_or : (b c d : Bool) → ((b && c) || (b && d)) ≡ (b && (c || d))
and_or b c d = grind (arith, nat_tests)

queued_unlinked : (x y : ℕ) (lists : List (List ℕ)) → is_queued (unlinked lists x) y ≡ (not (eqb x y) && is_queued lists y)
queued_unlinked x y [] = grind (arith, nat_tests, holds_without, and_or)
queued_unlinked x y (q ∷ lists) = grind (arith, nat_tests, holds_without, and_or, queued_unlinked x y lists)

pub unlinked-itself : (x : ℕ) (lists : List (List ℕ)) → is_queued (unlinked lists x) x ≡ false
unlinked-itself x lists = queued_unlinked x x lists ∙ rw (eq-eqb x x refl) refl

or_swap : (a b c : Bool) → ((a || (b || false)) || c) ≡ ((a || c) || b)
or_swap a b c = grind (arith, nat_tests)

or_assoc : (a b c : Bool) → (a || (b || c)) ≡ ((a || b) || c)
or_assoc a b c = grind (arith, nat_tests)

queued_pushed : (k x y : ℕ) (lists : List (List ℕ)) → k < length lists → is_queued (pushed lists k x) y ≡ (is_queued lists y || eqb y x)
queued_pushed k x y [] h = absurd (omega arith)
queued_pushed zero x y (q ∷ lists) h = rw (list_any-append (λ z. eqb y z) q (x ∷ [])) (or_swap (holds y q) (eqb y x) (is_queued lists y))
queued_pushed (suc k) x y (q ∷ lists) h = rw (queued_pushed k x y lists (omega arith)) (or_assoc (holds y q) (is_queued lists y) (eqb y x))

module _ (rows : List Wanted) (lists : List (List ℕ)) (x : ℕ) (low : x < length rows) where
  row-same : (r : Wanted) → row_of (set rows x r) x ≡ r
  row-same r = get_or-set_same rows x r _ low

  row-other : (r : Wanted) (y : ℕ) → y ≢ x → row_of (set rows x r) y ≡ row_of rows y
  row-other r y other = get_or-set_other rows x y r _ other

  -- the node asks for nothing any more
  pub tied-removed : (r : Wanted) → r.amount ≡ 0 → AreTied rows lists → AreTied (set rows x r) (unlinked lists x)
  tied-removed r none tied y = grind (arith, nat_tests, eqb_tells, row-same, queued_unlinked, row-other)

  -- the node, which asked for nothing, asks for something
  pub tied-put : (k : ℕ) (r : Wanted) → k < length lists → 0 < r.amount → AreTied rows lists → AreTied (set rows x r) (pushed lists k x)
  tied-put k r inside some tied y = elim (eqb_tells y x) [
    | inl hit ↦ grind (arith, nat_tests, row-same, lt-ltb, queued_pushed)
    | inr miss ↦ grind (arith, nat_tests, queued_pushed, row-other)
  ]
    where
      at_end : (a : Bool) → (a || true) ≡ true
      at_end true = refl
      at_end false = refl

      no_end : (a : Bool) → (a || false) ≡ a
      no_end true = refl
      no_end false = refl

  -- the node asks for something as before
  pub tied-lowered : (r : Wanted) → 0 < (row_of rows x).amount → 0 < r.amount → AreTied rows lists → AreTied (set rows x r) lists
  tied-lowered r before some tied y = grind (arith, nat_tests, eqb_tells, lt-ltb, row-same, row-other)

-- a node that asks for something has a row
pub asks_low : (rows : List Wanted) (x : ℕ) → 0 < (row_of rows x).amount → x < length rows
asks_low [] x h = absurd (omega arith)
asks_low (r ∷ rows) zero h = omega arith
asks_low (r ∷ rows) (suc x) h = let rest : x < length rows = asks_low rows x h in omega arith
