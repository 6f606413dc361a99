-- A table that is the recount of a past: at the start, its source, and its fronts.
use Rattle.dk_slack.proofs.Names.{◌≡◌, ℕ, zero, suc, ◌+◌, ◌-◌, ◌<◌, ◌≤◌, ◌&&◌, List, [], ◌∷◌, map, length, get_or, replicate, refl, sym, ap, subst, ◌∙◌, arith, nat_lt, filter, ◌↔◌, Contains, MatchOption, Option, ◌==◌, option_map, length-map, length-replicate, get_or_default, Configuration, numbers, below, first_of, ThreadId, Entry, Thread, threads, last_request, request, unclaimed, past_source, at_start, Wish, wishes_at, source, IsRecount, IsOldestNode, AreCounted, AreOldestFirst, asking, counted_wish, spares_of, nat_tests}
use Rattle.std.specs.Prelude.{slice_get}
use Rattle.dk_config.proofs.Counting.{length-numbers, get_or-map-numbers}
use Rattle.dk_trace.specs.Slack.{want}

pub spent_nothing : (x : ThreadId) (es : List Entry) → es ≡ [] → (last_request x es).amount - (last_request x es).spent ≡ 0
spent_nothing x es none = grind (arith, nat_tests)

asking-start : (c : Configuration) (k : ℕ) (xs : List Thread) → filter (λ x. (x.level == k) && nat_lt 0 (want c 0 [] x)) xs ≡ []
asking-start c k [] = refl
asking-start c k (x ∷ xs) = grind (arith, nat_tests, asking-start c k xs)

empty_level : (n k : ℕ) → wishes_at (replicate n []) k ≡ []
empty_level zero k = refl
empty_level (suc n) zero = refl
empty_level (suc n) (suc k) = empty_level n k

counts-start : (c : Configuration) (low n : ℕ) → replicate n 0 ≡ map (λ j. unclaimed c 0 [] j) (numbers low n)
counts-start c low zero = refl
counts-start c low (suc n) = grind (arith, nat_tests, counts-start c (suc low) n)

pub recount-start : (node_of : ThreadId → ℕ) (spares : List ℕ) (c : Configuration) → IsRecount node_of spares c 0 [] (at_start c spares)
recount-start node_of spares c = record {
  nodes = refl;
  switch = refl;
  levels = length-replicate (length c.levels) [];
  wishes = λ k inside. ([], λ x. subst (λ (ys : List Thread). Contains [] x ↔ Contains ys x) (sym (asking-start c k (threads c []))) (λ h. h, λ h. h), tt, empty_level (length c.levels) k);
  unclaimed = counts-start c 0 (length c.levels);
  spares = refl;
}

-- what a list of numbers has at each level
at_index : (f : ℕ → ℕ) (n i : ℕ) → i < n → get_or (map f (below n)) i 0 ≡ f i
at_index f n i h = get_or-map-numbers f 0 n i 0 h ∙ ap f (omega arith)

first-same : (f g : ℕ → Option ℕ) (low n : ℕ) → ((j : ℕ) → j < low + n → f j ≡ g j) → first_of f (numbers low n) ≡ first_of g (numbers low n)
first-same f g low zero same = refl
first-same f g low (suc n) same = rw (same low (omega arith), first-same f g (suc low) n (λ j h. same j (omega arith))) refl

pub source-past : (c : Configuration) (now : ℕ) (past : List Entry) (us zs : List ℕ) → us ≡ map (λ j. unclaimed c now past j) (below (length c.levels)) → zs ≡ spares_of c
    → source us zs ≡ past_source c now past
source-past c now past us zs counts spares = grind (arith, nat_tests, length-map, length-numbers, at_index, first-same)

no_item : (xs : List Thread) → ((x : Thread) → Contains xs x → ⊥) → xs ≡ []
no_item [] none = refl
no_item (x ∷ xs) none = absurd (none x (0, omega arith, refl))

module _ (node_of : ThreadId → ℕ) (c : Configuration) (now : ℕ) (past : List Entry) (k : ℕ) where
  not_younger : (x : Thread) (xs : List Thread) → ((y : Thread) → Contains xs y → (request c now past y).age < (request c now past x).age)
      → (y : Thread) → Contains (x ∷ xs) y → (request c now past y).age ≤ (request c now past x).age
  not_younger x xs older y has = at has.0 has.1 has.2
    where
      at : (i : ℕ) → i < length (x ∷ xs) → get_or (x ∷ xs) i y ≡ y → (request c now past y).age ≤ (request c now past x).age
      at zero inside is = omega (arith, ap (λ (z : Thread). (request c now past z).age) is)
      at (suc i) inside is = let less = older y (i, omega arith, is) in omega (arith, less)

  first-oldest : (ws : List Wish) (xs : List Thread) → ((x : Thread) → Contains xs x ↔ Contains (asking c now past k) x) → AreOldestFirst c now past xs → ws ≡ map (counted_wish node_of c now past) xs
      → MatchOption (option_map (λ (w : Wish). w.node) (slice_get ws 0)) (asking c now past k ≡ []) (IsOldestNode node_of c now past k)
  first-oldest ws [] same oldest made = rw made (no_item (asking c now past k) (λ x has. omega (arith, ((same x).1 has).1)))
  first-oldest ws (x ∷ xs) same oldest made =
      rw made (
        x,
        (same x).0 (0, omega arith, refl),
        refl,
        λ i d h.
            let y = get_or (asking c now past k) i d in
            not_younger x xs oldest.0 y ((same y).1 (i, h, get_or_default (asking c now past k) i y d h)),
      )

  pub front-oldest : (ws : List Wish) → AreCounted node_of c now past k ws
      → MatchOption (option_map (λ (w : Wish). w.node) (slice_get ws 0)) (asking c now past k ≡ []) (IsOldestNode node_of c now past k)
  front-oldest ws counted = first-oldest ws counted.0 counted.1 counted.2 counted.3
