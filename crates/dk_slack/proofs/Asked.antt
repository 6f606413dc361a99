-- What a look for a thread's wish finds in a table that is the recount of a past.
use Rattle.dk_slack.proofs.Names.{◌≡◌, ◌≢◌, ℕ, zero, suc, ◌-◌, ◌*◌, ◌<◌, ◌⊎◌, Bool, false, List, [], ◌∷◌, map, length, get_or, refl, sym, ap, ◌∙◌, inl, inr, arith, nat_lt, find, Contains, Option, Some, None, option_map_or, eqb_tells, nat_tests, Configuration, first_of, ThreadId, Entry, Thread, request, past_want, is_past_entering, Slack, Wish, wishes_at, is_of, wish_of, want, is_entering, IsRecount, HaveOwnNodes, asking, counted_wish}

-- a look through all levels
module _ (p : Wish → Bool) (w : Wish) where
  first-one : (wishes : List (List Wish)) (k : ℕ) → k < length wishes → find p (get_or wishes k []) ≡ Some w
      → ((j : ℕ) → j < length wishes → (find p (get_or wishes j []) ≡ None) ⊎ (find p (get_or wishes j []) ≡ Some w))
      → first_of (find p) wishes ≡ Some w
  first-one [] k inside hit each = absurd (omega arith)
  first-one (ws ∷ wishes) zero inside hit each = rw hit refl
  first-one (ws ∷ wishes) (suc k) inside hit each = elim (each 0 (omega arith)) [
    | inl none ↦ rw none (first-one wishes k (omega arith) hit (λ j h. each (suc j) (omega arith)))
    | inr some ↦ rw some refl
  ]

first-none : (p : Wish → Bool) (wishes : List (List Wish)) → ((j : ℕ) → j < length wishes → find p (get_or wishes j []) ≡ None) → first_of (find p) wishes ≡ None
first-none p [] each = refl
first-none p (ws ∷ wishes) each = rw (each 0 (omega arith)) (first-none p wishes (λ j h. each (suc j) (omega arith)))

-- an item of the rest is one of the list
pub later : (y : Thread) (ys : List Thread) (z : Thread) → Contains ys z → Contains (y ∷ ys) z
later y ys z h = (suc h.0, omega (arith, h.1), h.2)

module _ (node_of : ThreadId → ℕ) (c : Configuration) (now : ℕ) (past : List Entry) where
  abbrev counted : Thread → Wish
  counted x = counted_wish node_of c now past x

  module _ (x : Thread) where
    abbrev mine : Wish → Bool
    mine w = is_of (node_of x.id) w

    -- whoever has the thread's node is the thread
    abbrev Owns : List Thread → Type 0
    Owns xs = (y : Thread) → Contains xs y → node_of x.id ≡ node_of y.id → x ≡ y

    one-or-none : (xs : List Thread) → Owns xs → (find mine (map counted xs) ≡ None) ⊎ (find mine (map counted xs) ≡ Some (counted x))
    one-or-none [] owns = inl refl
    one-or-none (y ∷ ys) owns = elim (eqb_tells (node_of x.id) (node_of y.id)) [
      | inl hit ↦ inr (rw hit.0 (ap (λ (z : Thread). Some (counted z)) (sym (owns y (0, omega arith, refl) hit.1))))
      | inr miss ↦ rw miss.0 (one-or-none ys (λ z h. owns z (later y ys z h)))
    ]

    one : (xs : List Thread) → Owns xs → Contains xs x → find mine (map counted xs) ≡ Some (counted x)
    one [] owns has = absurd (omega (arith, has.1))
    one (y ∷ ys) owns has = elim (eqb_tells (node_of x.id) (node_of y.id)) [
      | inl hit ↦ rw hit.0 (ap (λ (z : Thread). Some (counted z)) (sym (owns y (0, omega arith, refl) hit.1)))
      | inr miss ↦ rw miss.0 (one ys (λ z h. owns z (later y ys z h)) (further miss.1 has.0 has.1 has.2))
    ]
      where
        further : node_of x.id ≢ node_of y.id → (i : ℕ) → i < length (y ∷ ys) → get_or (y ∷ ys) i x ≡ x → Contains ys x
        further other zero inside at = absurd (other (ap (λ (z : Thread). node_of z.id) (sym at)))
        further other (suc i) inside at = (i, omega arith, at)

  nobody : (node : ℕ) (xs : List Thread) → ((y : Thread) → Contains xs y → node ≢ node_of y.id) → find (is_of node) (map counted xs) ≡ None
  nobody node [] none = refl
  nobody node (y ∷ ys) none = elim (eqb_tells node (node_of y.id)) [
    | inl hit ↦ absurd (none y (0, omega arith, refl) hit.1)
    | inr miss ↦ rw miss.0 (nobody node ys (λ z h. none z (later y ys z h)))
  ]

  module _ (spares : List ℕ) (t : Slack) (recount : IsRecount node_of spares c now past t) where
    -- the wishes of a level by its threads
    find-at : (p : Wish → Bool) (r : Option Wish) (j : ℕ) (inside : j < length c.levels) → find p (map counted (recount.wishes j inside).0) ≡ r → find p (wishes_at t.wishes j) ≡ r
    find-at p r j inside h = ap (λ ws. find p ws) (recount.wishes j inside).3 ∙ h

    of_level : (j : ℕ) (inside : j < length c.levels) (y : Thread) → Contains (recount.wishes j inside).0 y → Contains (asking c now past j) y
    of_level j inside y h = ((recount.wishes j inside).1 y).0 h

    level-in : (j : ℕ) → j < length t.wishes → j < length c.levels
    level-in j h = omega (arith, recount.levels)

    pub wish-counted : (k : ℕ) (x : Thread) → HaveOwnNodes node_of c now past → k < length c.levels → Contains (asking c now past k) x
        → wish_of (node_of x.id) t.wishes ≡ Some (counted x)
    wish-counted k x own inside asks =
        let owns : (j : ℕ) (h : j < length c.levels) → Owns x (recount.wishes j h).0 = λ j h y has same. own k j x y inside h asks (of_level j h y has) same in
        let here : Contains (recount.wishes k inside).0 x = ((recount.wishes k inside).1 x).1 asks in
        first-one (mine x) (counted x) t.wishes k (omega (arith, recount.levels))
        (find-at (mine x) (Some (counted x)) k inside (one x (recount.wishes k inside).0 (owns k inside) here))
        (λ j h. elim (one-or-none x (recount.wishes j (level-in j h)).0 (owns j (level-in j h))) [
          | inl none ↦ inl (find-at (mine x) None j (level-in j h) none)
          | inr some ↦ inr (find-at (mine x) (Some (counted x)) j (level-in j h) some)
        ])

    pub want-counted : (k : ℕ) (x : Thread) → HaveOwnNodes node_of c now past → k < length c.levels → Contains (asking c now past k) x
        → want (node_of x.id) t.wishes ≡ past_want c now past x
    want-counted k x own inside asks = ap (λ o. option_map_or (λ (w : Wish). w.amount) o 0) (wish-counted k x own inside asks)

    pub switch-counted : (k : ℕ) (x : Thread) → HaveOwnNodes node_of c now past → k < length c.levels → Contains (asking c now past k) x
        → is_entering (node_of x.id) t.wishes ≡ is_past_entering c now past x
    switch-counted k x own inside asks =
        ap (λ o. option_map_or (λ (w : Wish). nat_lt 0 w.entering) o false) (wish-counted k x own inside asks) ∙ left (2 * c.costs.switch) (request c now past x).spent
      where
        left : (n m : ℕ) → nat_lt 0 (n - m) ≡ nat_lt m n
        left n m = grind (arith, nat_tests)

    pub nothing-counted : (node : ℕ) → ((k : ℕ) (x : Thread) → k < length c.levels → Contains (asking c now past k) x → node ≢ node_of x.id) → want node t.wishes ≡ 0
    nothing-counted node none =
        ap (λ o. option_map_or (λ (w : Wish). w.amount) o 0)
        (first-none (is_of node) t.wishes
        (λ j h. find-at (is_of node) None j (level-in j h) (nobody node (recount.wishes j (level-in j h)).0 (λ y has. none j y (level-in j h) (of_level j (level-in j h) y has)))))
