-- The wishes of the queued nodes, after a change of the queues and of a row, and what a look for one finds.
use Rattle.dk_slack.proofs.Names.{◌≡◌, ℕ, zero, suc, ◌-◌, ◌<◌, Bool, true, false, cond, not, ◌&&◌, ◌||◌, eqb, List, [], ◌∷◌, ◌++◌, map, length, get_or, set, refl, sym, ap, ◌∙◌, inl, inr, arith, get_or-set_same, get_or-set_other, nat_lt, filter, find, Option, Some, None, option_or, option_map_or, lt-ltb, or_parts, eqb_tells, map-append, map-set, get_or-map, queue_at, holds, pushed, without, unlinked, Wanted, Wish, is_of, wish_of, want, is_entering, dropped, put_last, lowered_for, row_of, wish_at, wishes_in, is_queued, AreTied, nat_tests}
use Rattle.dk_slack.proofs.Queued.{asks_low, unlinked-itself}

module _ (rows : List Wanted) (x : ℕ) where
  -- the row of a node that isn't queued doesn't show
  queue-same : (r : Wanted) (q : List ℕ) → holds x q ≡ false → map (wish_at (set rows x r)) q ≡ map (wish_at rows) q
  queue-same r [] none = refl
  queue-same r (y ∷ q) none =
      let both = or_parts (eqb x y) (holds x q) none in
      elim (eqb_tells x y) [
        | inl hit ↦ absurd (cc)
        | inr miss ↦ rw (get_or-set_other rows x y r (record { amount = 0; entering = 0 }) (λ e. miss.1 (sym e)), queue-same r q both.1) refl
      ]

  pub wishes-same : (r : Wanted) (lists : List (List ℕ)) → is_queued lists x ≡ false → wishes_in (set rows x r) lists ≡ wishes_in rows lists
  wishes-same r [] none = refl
  wishes-same r (q ∷ lists) none = grind (arith, nat_tests, or_parts, queue-same, wishes-same r lists)

  queue-without : (q : List ℕ) → map (wish_at rows) (without x q) ≡ filter (λ w. not (is_of x w)) (map (wish_at rows) q)
  queue-without [] = refl
  queue-without (y ∷ q) = grind (arith, nat_tests, queue-without q)

  wishes-unlinked : (lists : List (List ℕ)) → wishes_in rows (unlinked lists x) ≡ dropped x (wishes_in rows lists)
  wishes-unlinked [] = refl
  wishes-unlinked (q ∷ lists) = rw (queue-without q, wishes-unlinked lists) refl

  -- the node is taken out, and its row is written
  pub wishes-removed : (r : Wanted) (lists : List (List ℕ)) → wishes_in (set rows x r) (unlinked lists x) ≡ dropped x (wishes_in rows lists)
  wishes-removed r lists = wishes-same r (unlinked lists x) (unlinked-itself x lists) ∙ wishes-unlinked lists

  -- the node, which is in no queue, is put last, and its row is written
  pub wishes-put : (k : ℕ) (r : Wanted) (lists : List (List ℕ)) → x < length rows → k < length lists → is_queued lists x ≡ false
      → wishes_in (set rows x r) (pushed lists k x) ≡ put_last k (record { node = x; amount = r.amount; entering = r.entering }) (wishes_in rows lists)
  wishes-put k r lists low inside free =
      let new = set rows x r in
      map-set (map (wish_at new)) lists k (queue_at lists k ++ x ∷ [])
      ∙ rw (wishes-same r lists free, map-append (wish_at new) (queue_at lists k) (x ∷ []), get_or-set_same rows x r (record { amount = 0; entering = 0 }) low)
      (ap (λ q. set (wishes_in rows lists) k (q ++ record { node = x; amount = r.amount; entering = r.entering } ∷ []))
      (sym (get_or-map (map (wish_at new)) lists k [] [] inside) ∙ ap (λ ws. get_or ws k []) (wishes-same r lists free)))

  module _ (n : ℕ) (low : x < length rows) where
    abbrev less : Wanted
    less = record { amount = (row_of rows x).amount - n; entering = (row_of rows x).entering - n }

    wish-lowered : (y : ℕ) → wish_at (set rows x less) y ≡ lowered_for x n (wish_at rows y)
    wish-lowered y = elim (eqb_tells x y) [
      | inl hit ↦ rw (hit.0, sym hit.1, get_or-set_same rows x less (record { amount = 0; entering = 0 }) low) refl
      | inr miss ↦ rw (miss.0, get_or-set_other rows x y less (record { amount = 0; entering = 0 }) (λ e. miss.1 (sym e))) refl
    ]

    queue-lowered : (q : List ℕ) → map (wish_at (set rows x less)) q ≡ map (lowered_for x n) (map (wish_at rows) q)
    queue-lowered [] = refl
    queue-lowered (y ∷ q) = rw (wish-lowered y, queue-lowered q) refl

    pub wishes-lowered : (lists : List (List ℕ)) → wishes_in (set rows x less) lists ≡ map (map (lowered_for x n)) (wishes_in rows lists)
    wishes-lowered [] = refl
    wishes-lowered (q ∷ lists) = rw (queue-lowered q, wishes-lowered lists) refl

  find-in : (q : List ℕ) → find (is_of x) (map (wish_at rows) q) ≡ cond (holds x q) (Some (wish_at rows x)) None
  find-in [] = refl
  find-in (y ∷ q) = grind (arith, nat_tests, eqb_tells, find-in q)

  either : (a b : Bool) (w : Wish) → option_or (cond a (Some w) None) (cond b (Some w) None) ≡ cond (a || b) (Some w) None
  either a b w = grind (arith, nat_tests)

  pub wish-in : (lists : List (List ℕ)) → wish_of x (wishes_in rows lists) ≡ cond (is_queued lists x) (Some (wish_at rows x)) None
  wish-in [] = refl
  wish-in (q ∷ lists) = rw (find-in q, wish-in lists) (either (holds x q) (is_queued lists x) (wish_at rows x))

  module _ (lists : List (List ℕ)) (tied : AreTied rows lists) where
    wish-tied : wish_of x (wishes_in rows lists) ≡ cond (nat_lt 0 (row_of rows x).amount) (Some (wish_at rows x)) None
    wish-tied = wish-in lists ∙ ap (λ (b : Bool). cond b (Some (wish_at rows x)) None) (tied x)

    pub want-in : want x (wishes_in rows lists) ≡ (row_of rows x).amount
    want-in = ap (λ o. option_map_or (λ (w : Wish). w.amount) o 0) wish-tied ∙ amount_of (row_of rows x).amount (row_of rows x).entering
      where
        amount_of : (a e : ℕ) → option_map_or (λ (w : Wish). w.amount) (cond (nat_lt 0 a) (Some (record { node = x; amount = a; entering = e })) None) 0 ≡ a
        amount_of zero e = refl
        amount_of (suc a) e = let some : nat_lt 0 (suc a) ≡ true = lt-ltb 0 (suc a) (omega arith) in rw some refl

    pub no_wish-in : (row_of rows x).amount ≡ 0 → wish_of x (wishes_in rows lists) ≡ None
    no_wish-in none = wish-tied ∙ rw none refl

    pub entering-in : is_entering x (wishes_in rows lists) ≡ (nat_lt 0 (row_of rows x).amount && nat_lt 0 (row_of rows x).entering)
    entering-in = ap (λ o. option_map_or (λ (w : Wish). nat_lt 0 w.entering) o false) wish-tied ∙ tests (nat_lt 0 (row_of rows x).amount) (wish_at rows x)
      where
        tests : (b : Bool) (w : Wish) → option_map_or (λ (v : Wish). nat_lt 0 v.entering) (cond b (Some w) None) false ≡ (b && nat_lt 0 w.entering)
        tests true w = refl
        tests false w = refl

    -- a node that asks for nothing is in no queue
    pub free-in : want x (wishes_in rows lists) ≡ 0 → is_queued lists x ≡ false
    free-in none = let zero_is : (row_of rows x).amount ≡ 0 = sym want-in ∙ none in tied x ∙ rw zero_is refl

    -- one that asks for something has a row, and is in a queue
    pub low-in : 0 < want x (wishes_in rows lists) → x < length rows
    low-in some = asks_low rows x (omega (arith, want-in))

    pub queued-in : 0 < want x (wishes_in rows lists) → is_queued lists x ≡ true
    queued-in some = tied x ∙ lt-ltb 0 (row_of rows x).amount (omega (arith, want-in))

-- the wishes alone
find-dropped : (x : ℕ) (ws : List Wish) → find (is_of x) (filter (λ w. not (is_of x w)) ws) ≡ None
find-dropped x [] = refl
find-dropped x (w ∷ ws) = grind (arith, nat_tests, eqb_tells, find-dropped x ws)

pub wish-dropped : (x : ℕ) (wishes : List (List Wish)) → wish_of x (dropped x wishes) ≡ None
wish-dropped x [] = refl
wish-dropped x (ws ∷ wishes) = rw (find-dropped x ws, wish-dropped x wishes) refl

pub want-dropped : (x : ℕ) (wishes : List (List Wish)) → want x (dropped x wishes) ≡ 0
want-dropped x wishes = ap (λ o. option_map_or (λ (w : Wish). w.amount) o 0) (wish-dropped x wishes)

filter-none : (x : ℕ) (ws : List Wish) → find (is_of x) ws ≡ None → filter (λ w. not (is_of x w)) ws ≡ ws
filter-none x [] none = refl
filter-none x (w ∷ ws) none = grind (arith, nat_tests, eqb_tells, filter-none x ws)

neither : (a b : Option Wish) → option_or a b ≡ None → (a ≡ None) × (b ≡ None)
neither a b h = grind (arith, nat_tests)

pub dropped-none : (x : ℕ) (wishes : List (List Wish)) → wish_of x wishes ≡ None → dropped x wishes ≡ wishes
dropped-none x [] none = refl
dropped-none x (ws ∷ wishes) none = grind (arith, nat_tests, neither, filter-none, dropped-none x wishes)
