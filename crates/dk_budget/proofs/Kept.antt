-- What a filter that changes what it keeps leaves, one more item on.
use Rattle.dk_budget.proofs.Names.{◌≡◌, ◌<◌, ◌+◌, ◌++◌, add-one, ℕ, zero, suc, List, [], ◌∷◌, length, take, get_or, Option, None, arith, filter_map, Loan, nat_tests}
use Rattle.std.specs.Option.{option_to_list}

filter_map-take : {X Y : Type 0} (h : X → Option Y) (xs : List X) (i : ℕ) (d : X) → i < length xs
    → filter_map h (take (suc i) xs) ≡ filter_map h (take i xs) ++ option_to_list (h (get_or xs i d))
filter_map-take h [] i d below = absurd (omega arith)
filter_map-take h (x ∷ xs) zero d below = grind (arith, nat_tests)
filter_map-take h (x ∷ xs) (suc i) d below = grind (arith, nat_tests, filter_map-take h xs i)

-- what stands in the code's place of an item past the end
abbrev pub no_loan : Loan
no_loan = record { serial = 0; level = 0; quota = 0; start = 0; end = None }

pub filter_map_more : {X Y : Type 0} (h : X → Option Y) (xs : List X) (i : ℕ) (d : X) → i < length xs
    → filter_map h (take (i + 1) xs) ≡ filter_map h (take i xs) ++ option_to_list (h (get_or xs i d))
filter_map_more h xs i d below = rw add-one (filter_map-take h xs i d below)
