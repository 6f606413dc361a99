-- Asks, as words spell them and as the planner takes them.
use Rattle.dk_request.proofs.Names.{ℕ, ◌≡◌, ◌≤◌, ◌↔◌, Bool, true, false, List, [], ◌∷◌, ◌++◌, length, refl, sym, ap, arith, append_assoc, inl, inr, nat_le, IsTrue, None, option_map, slice_index_or, list_all, cases_Bool, and_parts, and_from, false≢true, nat_tests, AllPass-from_list_all, list_all-from_AllPass, MAX_SPAN, MAX_ASKS, Ask, AreAsks, IsAsk, are_asks, ask_in, asks_in, is_ask}
use Rattle.std.specs.Prelude.{◌&&◌, Option, Some}

is_ask_so : (hi : ℕ) (a : Ask) → is_ask hi a ≡ true → IsAsk hi a
is_ask_so hi a h =
    let both = and_parts (nat_le hi a.period && nat_le a.period MAX_SPAN) (nat_le 1 a.budget && nat_le a.budget MAX_SPAN) h in
    let period = and_parts (nat_le hi a.period) (nat_le a.period MAX_SPAN) both.0 in
    let budget = and_parts (nat_le 1 a.budget) (nat_le a.budget MAX_SPAN) both.1 in
    let long : nat_le hi a.period ≡ true = period.0 in
    let few : nat_le a.period MAX_SPAN ≡ true = period.1 in
    let some : nat_le 1 a.budget ≡ true = budget.0 in
    let most : nat_le a.budget MAX_SPAN ≡ true = budget.1 in
    record { long = grind (arith, nat_tests); period = grind (arith, nat_tests); some = grind (arith, nat_tests); budget = grind (arith, nat_tests) }

so_is_ask : (hi : ℕ) (a : Ask) → IsAsk hi a → is_ask hi a ≡ true
so_is_ask hi a is =
    let long : hi ≤ a.period = is.long in
    let few : a.period ≤ MAX_SPAN = is.period in
    let some : 1 ≤ a.budget = is.some in
    let most : a.budget ≤ MAX_SPAN = is.budget in
    and_from _ _ (and_from (nat_le hi a.period) (nat_le a.period MAX_SPAN) (grind (arith, nat_tests)) (grind (arith, nat_tests)))
    (and_from (nat_le 1 a.budget) (nat_le a.budget MAX_SPAN) (grind (arith, nat_tests)) (grind (arith, nat_tests)))

pub are_asks_so : (hi : ℕ) (asks : List Ask) → are_asks hi asks ≡ true → AreAsks hi asks
are_asks_so hi asks h =
    let both = and_parts (nat_le 1 (length asks) && nat_le (length asks) MAX_ASKS) (list_all (is_ask hi) asks) h in
    let size = and_parts (nat_le 1 (length asks)) (nat_le (length asks) MAX_ASKS) both.0 in
    let some : nat_le 1 (length asks) ≡ true = size.0 in
    let few : nat_le (length asks) MAX_ASKS ≡ true = size.1 in
    record {
      some = grind (arith, nat_tests);
      few = grind (arith, nat_tests);
      each = λ k d lt. is_ask_so hi (slice_index_or asks k d) (AllPass-from_list_all (is_ask hi) asks both.1 k d lt);
    }

so_are_asks : (hi : ℕ) (asks : List Ask) → AreAsks hi asks → are_asks hi asks ≡ true
so_are_asks hi asks are =
    let some : 1 ≤ length asks = are.some in
    let few : length asks ≤ MAX_ASKS = are.few in
    and_from _ _ (and_from (nat_le 1 (length asks)) (nat_le (length asks) MAX_ASKS) (grind (arith, nat_tests)) (grind (arith, nat_tests)))
    (list_all-from_AllPass (is_ask hi) asks (λ k d lt. so_is_ask hi (slice_index_or asks k d) (are.each k d lt)))

-- the planner's test is the one of the words
pub same_test : (r : Bool) (hi : ℕ) (asks : List Ask) → IsTrue r ↔ AreAsks hi asks → r ≡ are_asks hi asks
same_test true hi asks tells = sym (so_are_asks hi asks (tells.0 refl))
same_test false hi asks tells = elim (cases_Bool (are_asks hi asks)) [
  | inl e ↦ absurd (false≢true (tells.1 (are_asks_so hi asks e)))
  | inr e ↦ sym e
]

-- ---- one ask after another

pub next_ask : (done : List Ask) (a : Ask) (w : List ℕ) (ws : List (List ℕ)) → ask_in w ≡ Some a
    → option_map (λ more. (done ++ a ∷ []) ++ more) (asks_in ws) ≡ option_map (λ more. done ++ more) (asks_in (w ∷ ws))
next_ask done a w ws is = rw is (moved (asks_in ws))
  where
    moved : (o : Option (List Ask)) → option_map (λ more. (done ++ a ∷ []) ++ more) o ≡ option_map (λ more. done ++ more) (option_map (λ more. a ∷ more) o)
    moved None = refl
    moved (Some more) = ap (λ t. Some t) (append_assoc done (a ∷ []) more)

pub no_ask : (done : List Ask) (w : List ℕ) (ws : List (List ℕ)) → ask_in w ≡ None → option_map (λ more. done ++ more) (asks_in (w ∷ ws)) ≡ None
no_ask done w ws is = rw is refl
