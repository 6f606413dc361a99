-- The first wish of a level is that of the thread that has asked for longest.
use Rattle.dk_recount.proofs.Names.{◌≡◌, ◌<◌, ◌⊎◌, inl, inr, false, leb, ℕ, List, [], ◌∷◌, map, Option, Some, None, option_map, refl, ap, sym, arith, slice_get, Contains, ◌↔◌, nat_tests, Configuration, ThreadId, Entry, Has, Thread, request, older, oldest, contains-has, has-contains, Wish, AreCounted, AreOldestFirst, asking, counted_wish}

module _ (c : Configuration) (now : ℕ) (past : List Entry) where
  age : Thread → ℕ
  age x = (request c now past x).age

  older-has : (y x : Thread) (xs : List Thread) (o : Option Thread) → ((z : Thread) → o ≡ Some z → Has xs z) → older c now past y o ≡ Some x → Has (y ∷ xs) x
  older-has y x xs o rest is = grind (arith, nat_tests, age)

  pub oldest-has : (xs : List Thread) (x : Thread) → oldest c now past xs ≡ Some x → Has xs x
  oldest-has [] x is = absurd (cc)
  oldest-has (y ∷ xs) x is = older-has y x xs (oldest c now past xs) (λ z e. oldest-has xs z e) is

  -- a thread that is older than all others is the oldest
  oldest-is : (xs : List Thread) (x : Thread) → Has xs x → ((y : Thread) → Has xs y → (y ≡ x) ⊎ ((request c now past y).age < (request c now past x).age))
      → oldest c now past xs ≡ Some x
  oldest-is [] x has first = absurd has
  oldest-is (y ∷ xs) x has first =
      elim (first y (inl refl)) [
        | inl same ↦ go (oldest c now past xs) refl same
        | inr less ↦
            elim has [
              | inl same ↦ let e : (request c now past y).age ≡ (request c now past x).age = ap (λ z. (request c now past z).age) same in absurd (omega arith)
              | inr rest ↦
                  let tail = oldest-is xs x rest (λ z h. first z (inr h)) in
                  let off : leb (request c now past x).age (request c now past y).age ≡ false = grind (arith, nat_tests) in
                  rw (tail, off) refl
            ]
      ]
    where
      go : (o : Option Thread) → oldest c now past xs ≡ o → y ≡ x → older c now past y o ≡ Some x
      go None at same = ap Some same
      go (Some z) at same =
          elim (first z (inr (oldest-has xs z at))) [
            | inl too ↦ grind (arith, nat_tests, age)
            | inr less ↦ grind (arith, nat_tests, age)
          ]

  pub first-oldest : (node_of : ThreadId → ℕ) (k : ℕ) (wishes : List Wish) → AreCounted node_of c now past k wishes
      → option_map (λ (w : Wish). w.node) (slice_get wishes 0) ≡ option_map (λ (x : Thread). node_of x.id) (oldest c now past (asking c now past k))
  first-oldest node_of k wishes counted = go counted.0 counted.1 counted.2 counted.3
    where
      nobody : (zs : List Thread) → ((x : Thread) → Has zs x → ⊥) → oldest c now past zs ≡ None
      nobody [] none = refl
      nobody (z ∷ zs) none = absurd (none z (inl refl))

      go : (xs : List Thread) → ((x : Thread) → Contains xs x ↔ Contains (asking c now past k) x) → AreOldestFirst c now past xs
          → wishes ≡ map (counted_wish node_of c now past) xs
          → option_map (λ (w : Wish). w.node) (slice_get wishes 0) ≡ option_map (λ (x : Thread). node_of x.id) (oldest c now past (asking c now past k))
      go [] same order are =
          rw (are, nobody (asking c now past k) (λ x h. contains-has [] x ((same x).1 (has-contains (asking c now past k) x h)))) refl
      go (x ∷ xs) same order are =
          let here : Has (asking c now past k) x = contains-has (asking c now past k) x ((same x).0 (has-contains (x ∷ xs) x (inl refl))) in
          let first : (y : Thread) → Has (asking c now past k) y → (y ≡ x) ⊎ ((request c now past y).age < (request c now past x).age) =
          λ y h. after y (contains-has (x ∷ xs) y ((same y).1 (has-contains (asking c now past k) y h))) in
          rw (are, oldest-is (asking c now past k) x here first) refl
        where
          after : (y : Thread) → Has (x ∷ xs) y → (y ≡ x) ⊎ ((request c now past y).age < (request c now past x).age)
          after y (inl is) = inl (sym is)
          after y (inr h) = inr (order.0 y (has-contains xs y h))
