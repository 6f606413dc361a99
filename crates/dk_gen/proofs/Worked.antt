-- The workloads of six numbers, which were worked out beside the definition.
use Rattle.std.proofs.Common.{◌≡◌, ℕ, List, [], ◌∷◌, ◌++◌, map, refl}
use Rattle.std.specs.Prelude.{flat_map}
use Rattle.std.specs.Fmt.{digits}
use Rattle.dk_config.specs.Sums.{below}
use Rattle.dk_certify.specs.Verdicts.{rows_of}
use Rattle.dk_gen.specs.Draws.{state, draw}
use Rattle.dk_gen.specs.Templates.{random_program}
use Rattle.dk_gen.specs.Generated.{configuration_of, process_count, place_of, budget_of, hold_of, levels_of, costs_of, program_at}

-- the periods, the releases, the costs, the budgets and the hold
drawn : ℕ → List ℕ
drawn number =
    map (λ row. row.period) (levels_of number) ++ map (λ row. row.release) (levels_of number)
    ++ ((costs_of number).switch ∷ (costs_of number).call ∷ []) ++ map (budget_of number) (below (process_count number)) ++ hold_of number ∷ []

-- what certification finds at each level: the period, the demand, the blocking and the spare
found : ℕ → List ℕ
found number = flat_map (λ row. row.period ∷ row.demand ∷ row.blocking ∷ row.spare ∷ []) (rows_of (configuration_of number))

-- the programs, one behind the other
codes : ℕ → List ℕ
codes number = flat_map (program_at number) (below (process_count number))

drawn_of_zero : drawn 0
    ≡ 900 ∷ 1800 ∷ 5400 ∷ 0 ∷ 1 ∷ 3 ∷ 2 ∷ 2 ∷ 44 ∷ 277 ∷ 84 ∷ 23 ∷ []
unfolding drawn state draw place_of
drawn_of_zero = refl

found_in_zero : found 0 ≡ 900 ∷ 44 ∷ 23 ∷ 833 ∷ 1800 ∷ 366 ∷ 23 ∷ 1411 ∷ 5400 ∷ 1185 ∷ 0 ∷ 4215 ∷ []
unfolding found state draw place_of digits
found_in_zero = refl

codes_of_zero : codes 0
    ≡ 3 ∷ 6 ∷ 5 ∷ 4 ∷ 18 ∷ 1 ∷ 2 ∷ 3 ∷ 18 ∷ 6 ∷ 5 ∷ 7 ∷ 18 ∷ 5 ∷ 3 ∷ 1 ∷ 19 ∷ 3 ∷ 6 ∷ 1 ∷ 17 ∷ 2 ∷ 4 ∷ 1 ∷ 2 ∷ 2 ∷ 7 ∷ 0 ∷ 18 ∷ 0 ∷ 3 ∷ 1 ∷ 8 ∷ 5 ∷ 0 ∷ 7 ∷ 22 ∷ 4 ∷ 6 ∷ 0 ∷ 1 ∷ 1 ∷ 1 ∷ 3 ∷ 6 ∷ 2 ∷ 4 ∷ 2 ∷ 2 ∷ 0 ∷ 6 ∷ 5 ∷ 14 ∷ 1 ∷ 6 ∷ 2 ∷ 0 ∷ 4 ∷ 6 ∷ 1 ∷ 11 ∷ 0 ∷ 3 ∷ 4 ∷ 6 ∷ 4 ∷ 6 ∷ 1 ∷ 20 ∷ 0 ∷ 5 ∷ 1 ∷ 14 ∷ 5 ∷ 4 ∷ 7 ∷ 11 ∷ 1 ∷ 5 ∷ 0 ∷ 17 ∷ 7 ∷ 1 ∷ 6 ∷ 11 ∷ 0 ∷ 5 ∷ 5 ∷ 12 ∷ 5 ∷ 4 ∷ 2 ∷ 11 ∷ 7 ∷ 3 ∷ 1 ∷ 8 ∷ 5 ∷ 7 ∷ 6 ∷ 9 ∷ 3 ∷ 6 ∷ 4 ∷ 17 ∷ 5 ∷ 5 ∷ 1 ∷ 16 ∷ 6 ∷ 6 ∷ 4 ∷ 3 ∷ 4 ∷ 7 ∷ 2 ∷ 14 ∷ 1 ∷ 2 ∷ 3 ∷ 21 ∷ 5 ∷ 1 ∷ 3 ∷ 16 ∷ 1 ∷ 6 ∷ 6 ∷ 1 ∷ 1 ∷ 2 ∷ 0 ∷ 1 ∷ 2 ∷ 2 ∷ 0 ∷ 1 ∷ 3 ∷ 6 ∷ 0 ∷ 22 ∷ 3 ∷ 0 ∷ 0 ∷ 22 ∷ 1 ∷ 0 ∷ 0 ∷ 17 ∷ 0 ∷ 4 ∷ 0 ∷ 22 ∷ 8 ∷ 0 ∷ 0 ∷ 22 ∷ 2 ∷ 0 ∷ 0 ∷ 22 ∷ 1 ∷ 0 ∷ 0 ∷ 17 ∷ 0 ∷ 0 ∷ 0 ∷ []
unfolding codes state draw place_of random_program
codes_of_zero = refl

drawn_of_one : drawn 1
    ≡ 600 ∷ 1200 ∷ 2400 ∷ 2 ∷ 2 ∷ 3 ∷ 2 ∷ 1 ∷ 51 ∷ 24 ∷ 107 ∷ 8 ∷ 7 ∷ 185 ∷ 12 ∷ []
unfolding drawn state draw place_of
drawn_of_one = refl

found_in_one : found 1 ≡ 600 ∷ 61 ∷ 12 ∷ 527 ∷ 1200 ∷ 155 ∷ 12 ∷ 1033 ∷ 2400 ∷ 605 ∷ 0 ∷ 1795 ∷ []
unfolding found state draw place_of digits
found_in_one = refl

codes_of_one : codes 1
    ≡ 8 ∷ 4 ∷ 0 ∷ 2 ∷ 15 ∷ 2 ∷ 7 ∷ 4 ∷ 18 ∷ 3 ∷ 5 ∷ 6 ∷ 21 ∷ 5 ∷ 0 ∷ 4 ∷ 12 ∷ 1 ∷ 0 ∷ 7 ∷ 20 ∷ 4 ∷ 5 ∷ 6 ∷ 1 ∷ 2 ∷ 2 ∷ 4 ∷ 15 ∷ 7 ∷ 4 ∷ 2 ∷ 18 ∷ 5 ∷ 6 ∷ 4 ∷ 0 ∷ 7 ∷ 2 ∷ 2 ∷ 10 ∷ 4 ∷ 2 ∷ 5 ∷ 10 ∷ 6 ∷ 3 ∷ 7 ∷ 15 ∷ 1 ∷ 6 ∷ 4 ∷ 5 ∷ 7 ∷ 7 ∷ 3 ∷ 5 ∷ 2 ∷ 7 ∷ 2 ∷ 21 ∷ 1 ∷ 4 ∷ 7 ∷ 19 ∷ 1 ∷ 6 ∷ 7 ∷ 6 ∷ 1 ∷ 3 ∷ 7 ∷ 10 ∷ 2 ∷ 1 ∷ 0 ∷ 21 ∷ 0 ∷ 6 ∷ 6 ∷ 9 ∷ 7 ∷ 6 ∷ 1 ∷ 15 ∷ 5 ∷ 4 ∷ 3 ∷ 20 ∷ 1 ∷ 0 ∷ 6 ∷ 15 ∷ 6 ∷ 5 ∷ 4 ∷ 13 ∷ 6 ∷ 4 ∷ 2 ∷ 6 ∷ 3 ∷ 1 ∷ 1 ∷ 8 ∷ 3 ∷ 4 ∷ 1 ∷ 11 ∷ 6 ∷ 4 ∷ 7 ∷ 8 ∷ 3 ∷ 1 ∷ 2 ∷ 9 ∷ 6 ∷ 4 ∷ 4 ∷ 13 ∷ 4 ∷ 3 ∷ 6 ∷ 10 ∷ 6 ∷ 3 ∷ 7 ∷ 1 ∷ 1 ∷ 2 ∷ 0 ∷ 1 ∷ 2 ∷ 1 ∷ 0 ∷ 1 ∷ 3 ∷ 6 ∷ 0 ∷ 22 ∷ 3 ∷ 0 ∷ 0 ∷ 22 ∷ 1 ∷ 0 ∷ 0 ∷ 17 ∷ 0 ∷ 4 ∷ 0 ∷ 22 ∷ 8 ∷ 0 ∷ 0 ∷ 22 ∷ 2 ∷ 0 ∷ 0 ∷ 1 ∷ 5 ∷ 4 ∷ 2 ∷ 3 ∷ 2 ∷ 5 ∷ 1 ∷ 20 ∷ 1 ∷ 2 ∷ 1 ∷ 2 ∷ 1 ∷ 2 ∷ 7 ∷ 11 ∷ 1 ∷ 2 ∷ 6 ∷ 15 ∷ 1 ∷ 2 ∷ 3 ∷ 22 ∷ 5 ∷ 2 ∷ 1 ∷ 19 ∷ 0 ∷ 5 ∷ 6 ∷ 12 ∷ 5 ∷ 3 ∷ 3 ∷ 4 ∷ 4 ∷ 1 ∷ 1 ∷ 22 ∷ 2 ∷ 2 ∷ 7 ∷ 4 ∷ 6 ∷ 4 ∷ 1 ∷ 1 ∷ 6 ∷ 0 ∷ 5 ∷ 4 ∷ 1 ∷ 0 ∷ 1 ∷ 22 ∷ 0 ∷ 2 ∷ 6 ∷ 0 ∷ 3 ∷ 6 ∷ 1 ∷ 13 ∷ 4 ∷ 0 ∷ 1 ∷ 15 ∷ 1 ∷ 6 ∷ 1 ∷ 19 ∷ 5 ∷ 2 ∷ 6 ∷ 20 ∷ 1 ∷ 6 ∷ 4 ∷ 10 ∷ 5 ∷ 1 ∷ 0 ∷ 22 ∷ 3 ∷ 6 ∷ 2 ∷ 0 ∷ 0 ∷ 6 ∷ 4 ∷ 21 ∷ 7 ∷ 1 ∷ 5 ∷ 5 ∷ 2 ∷ 1 ∷ 3 ∷ 1 ∷ 3 ∷ 7 ∷ 7 ∷ 13 ∷ 1 ∷ 7 ∷ 4 ∷ 2 ∷ 3 ∷ 6 ∷ 1 ∷ 16 ∷ 5 ∷ 3 ∷ 6 ∷ 7 ∷ 2 ∷ 7 ∷ 4 ∷ 19 ∷ 5 ∷ 1 ∷ 0 ∷ 22 ∷ 5 ∷ 0 ∷ 6 ∷ 1 ∷ 1 ∷ 159 ∷ 2 ∷ 22 ∷ 7 ∷ 0 ∷ 0 ∷ 17 ∷ 0 ∷ 0 ∷ 0 ∷ 1 ∷ 1 ∷ 2 ∷ 0 ∷ 1 ∷ 2 ∷ 4 ∷ 0 ∷ 1 ∷ 3 ∷ 6 ∷ 0 ∷ 22 ∷ 3 ∷ 0 ∷ 0 ∷ 22 ∷ 1 ∷ 0 ∷ 0 ∷ 17 ∷ 0 ∷ 4 ∷ 0 ∷ 22 ∷ 8 ∷ 0 ∷ 0 ∷ 22 ∷ 2 ∷ 0 ∷ 0 ∷ 1 ∷ 1 ∷ 39 ∷ 2 ∷ 22 ∷ 7 ∷ 0 ∷ 0 ∷ 17 ∷ 0 ∷ 0 ∷ 0 ∷ []
unfolding codes state draw place_of random_program
codes_of_one = refl

drawn_of_two : drawn 2
    ≡ 200 ∷ 400 ∷ 800 ∷ 0 ∷ 3 ∷ 3 ∷ 0 ∷ 1 ∷ 11 ∷ 2 ∷ 50 ∷ 5 ∷ 2 ∷ 44 ∷ 7 ∷ []
unfolding drawn state draw place_of
drawn_of_two = refl

found_in_two : found 2 ≡ 200 ∷ 16 ∷ 7 ∷ 177 ∷ 400 ∷ 39 ∷ 7 ∷ 354 ∷ 800 ∷ 175 ∷ 0 ∷ 625 ∷ []
unfolding found state draw place_of digits
found_in_two = refl

codes_of_two : codes 2
    ≡ 13 ∷ 2 ∷ 2 ∷ 0 ∷ 6 ∷ 2 ∷ 5 ∷ 6 ∷ 1 ∷ 0 ∷ 6 ∷ 4 ∷ 18 ∷ 5 ∷ 6 ∷ 7 ∷ 12 ∷ 7 ∷ 3 ∷ 6 ∷ 17 ∷ 5 ∷ 6 ∷ 3 ∷ 6 ∷ 1 ∷ 4 ∷ 0 ∷ 12 ∷ 7 ∷ 4 ∷ 3 ∷ 5 ∷ 4 ∷ 4 ∷ 0 ∷ 1 ∷ 2 ∷ 6 ∷ 3 ∷ 2 ∷ 6 ∷ 4 ∷ 0 ∷ 8 ∷ 2 ∷ 3 ∷ 3 ∷ 12 ∷ 2 ∷ 6 ∷ 2 ∷ 14 ∷ 5 ∷ 1 ∷ 3 ∷ 9 ∷ 0 ∷ 1 ∷ 3 ∷ 8 ∷ 2 ∷ 5 ∷ 2 ∷ 3 ∷ 6 ∷ 6 ∷ 5 ∷ 16 ∷ 2 ∷ 1 ∷ 6 ∷ 12 ∷ 7 ∷ 6 ∷ 2 ∷ 13 ∷ 6 ∷ 6 ∷ 5 ∷ 6 ∷ 7 ∷ 3 ∷ 5 ∷ 20 ∷ 2 ∷ 2 ∷ 1 ∷ 11 ∷ 5 ∷ 3 ∷ 2 ∷ 13 ∷ 4 ∷ 0 ∷ 6 ∷ 17 ∷ 7 ∷ 0 ∷ 6 ∷ 21 ∷ 4 ∷ 3 ∷ 6 ∷ 21 ∷ 2 ∷ 3 ∷ 0 ∷ 7 ∷ 6 ∷ 1 ∷ 2 ∷ 13 ∷ 3 ∷ 3 ∷ 2 ∷ 21 ∷ 2 ∷ 6 ∷ 5 ∷ 5 ∷ 3 ∷ 5 ∷ 1 ∷ 4 ∷ 2 ∷ 7 ∷ 7 ∷ 17 ∷ 0 ∷ 0 ∷ 0 ∷ 22 ∷ 0 ∷ 5 ∷ 7 ∷ 15 ∷ 5 ∷ 2 ∷ 2 ∷ 9 ∷ 2 ∷ 4 ∷ 0 ∷ 0 ∷ 6 ∷ 7 ∷ 1 ∷ 10 ∷ 7 ∷ 2 ∷ 7 ∷ 8 ∷ 3 ∷ 7 ∷ 2 ∷ 5 ∷ 6 ∷ 7 ∷ 3 ∷ 5 ∷ 5 ∷ 1 ∷ 4 ∷ 14 ∷ 6 ∷ 7 ∷ 0 ∷ 18 ∷ 0 ∷ 5 ∷ 7 ∷ 2 ∷ 7 ∷ 7 ∷ 4 ∷ 19 ∷ 2 ∷ 6 ∷ 4 ∷ 14 ∷ 4 ∷ 2 ∷ 6 ∷ 2 ∷ 2 ∷ 3 ∷ 6 ∷ 15 ∷ 7 ∷ 0 ∷ 1 ∷ 16 ∷ 4 ∷ 5 ∷ 1 ∷ 7 ∷ 5 ∷ 6 ∷ 6 ∷ 0 ∷ 5 ∷ 1 ∷ 4 ∷ 1 ∷ 0 ∷ 2 ∷ 2 ∷ 18 ∷ 3 ∷ 1 ∷ 1 ∷ 14 ∷ 2 ∷ 0 ∷ 2 ∷ 7 ∷ 5 ∷ 4 ∷ 5 ∷ 14 ∷ 3 ∷ 2 ∷ 1 ∷ 11 ∷ 1 ∷ 0 ∷ 5 ∷ 9 ∷ 4 ∷ 6 ∷ 0 ∷ 7 ∷ 1 ∷ 6 ∷ 4 ∷ 4 ∷ 1 ∷ 0 ∷ 2 ∷ 1 ∷ 6 ∷ 7 ∷ 1 ∷ 15 ∷ 4 ∷ 4 ∷ 6 ∷ 21 ∷ 5 ∷ 1 ∷ 2 ∷ 14 ∷ 6 ∷ 5 ∷ 5 ∷ 6 ∷ 3 ∷ 0 ∷ 5 ∷ 22 ∷ 1 ∷ 0 ∷ 0 ∷ 17 ∷ 0 ∷ 0 ∷ 0 ∷ 17 ∷ 0 ∷ 0 ∷ 0 ∷ 17 ∷ 0 ∷ 0 ∷ 0 ∷ []
unfolding codes state draw place_of random_program
codes_of_two = refl

drawn_of_seven : drawn 7
    ≡ 900 ∷ 3600 ∷ 7200 ∷ 1 ∷ 1 ∷ 3 ∷ 1 ∷ 1 ∷ 25 ∷ 78 ∷ 252 ∷ 54 ∷ 12 ∷ []
unfolding drawn state draw place_of
drawn_of_seven = refl

found_in_seven : found 7 ≡ 900 ∷ 80 ∷ 12 ∷ 808 ∷ 3600 ∷ 399 ∷ 12 ∷ 3189 ∷ 7200 ∷ 1053 ∷ 0 ∷ 6147 ∷ []
unfolding found state draw place_of digits
found_in_seven = refl

codes_of_seven : codes 7
    ≡ 17 ∷ 0 ∷ 0 ∷ 0 ∷ 1 ∷ 1 ∷ 25 ∷ 1 ∷ 22 ∷ 7 ∷ 0 ∷ 0 ∷ 17 ∷ 0 ∷ 0 ∷ 0 ∷ 1 ∷ 1 ∷ 150 ∷ 1 ∷ 22 ∷ 7 ∷ 0 ∷ 0 ∷ 17 ∷ 0 ∷ 0 ∷ 0 ∷ 22 ∷ 1 ∷ 0 ∷ 0 ∷ 17 ∷ 0 ∷ 0 ∷ 0 ∷ []
unfolding codes state draw place_of random_program
codes_of_seven = refl

drawn_of_forty_two : drawn 42
    ≡ 200 ∷ 800 ∷ 2400 ∷ 3 ∷ 2 ∷ 0 ∷ 2 ∷ 1 ∷ 10 ∷ 7 ∷ 234 ∷ 24 ∷ 14 ∷ 10 ∷ []
unfolding drawn state draw place_of
drawn_of_forty_two = refl

found_in_forty_two : found 42 ≡ 200 ∷ 37 ∷ 10 ∷ 153 ∷ 800 ∷ 171 ∷ 10 ∷ 619 ∷ 2400 ∷ 747 ∷ 0 ∷ 1653 ∷ []
unfolding found state draw place_of digits
found_in_forty_two = refl

codes_of_forty_two : codes 42
    ≡ 1 ∷ 1 ∷ 2 ∷ 0 ∷ 1 ∷ 2 ∷ 3 ∷ 0 ∷ 1 ∷ 3 ∷ 6 ∷ 0 ∷ 22 ∷ 3 ∷ 0 ∷ 0 ∷ 22 ∷ 1 ∷ 0 ∷ 0 ∷ 17 ∷ 0 ∷ 4 ∷ 0 ∷ 22 ∷ 8 ∷ 0 ∷ 0 ∷ 22 ∷ 2 ∷ 0 ∷ 0 ∷ 1 ∷ 1 ∷ 2 ∷ 0 ∷ 1 ∷ 2 ∷ 1 ∷ 0 ∷ 1 ∷ 3 ∷ 6 ∷ 0 ∷ 22 ∷ 3 ∷ 0 ∷ 0 ∷ 22 ∷ 1 ∷ 0 ∷ 0 ∷ 17 ∷ 0 ∷ 4 ∷ 0 ∷ 22 ∷ 8 ∷ 0 ∷ 0 ∷ 22 ∷ 2 ∷ 0 ∷ 0 ∷ 17 ∷ 0 ∷ 0 ∷ 0 ∷ 1 ∷ 1 ∷ 2 ∷ 0 ∷ 1 ∷ 2 ∷ 1 ∷ 0 ∷ 1 ∷ 3 ∷ 6 ∷ 0 ∷ 22 ∷ 3 ∷ 0 ∷ 0 ∷ 22 ∷ 1 ∷ 0 ∷ 0 ∷ 17 ∷ 0 ∷ 4 ∷ 0 ∷ 22 ∷ 8 ∷ 0 ∷ 0 ∷ 22 ∷ 2 ∷ 0 ∷ 0 ∷ 19 ∷ 7 ∷ 0 ∷ 5 ∷ 4 ∷ 6 ∷ 4 ∷ 5 ∷ 12 ∷ 2 ∷ 4 ∷ 0 ∷ 12 ∷ 0 ∷ 5 ∷ 6 ∷ 15 ∷ 1 ∷ 2 ∷ 2 ∷ 19 ∷ 7 ∷ 7 ∷ 5 ∷ 4 ∷ 3 ∷ 6 ∷ 7 ∷ 16 ∷ 7 ∷ 1 ∷ 3 ∷ 11 ∷ 7 ∷ 5 ∷ 7 ∷ 22 ∷ 4 ∷ 3 ∷ 7 ∷ 21 ∷ 2 ∷ 5 ∷ 3 ∷ 0 ∷ 0 ∷ 4 ∷ 1 ∷ 19 ∷ 4 ∷ 0 ∷ 5 ∷ 1 ∷ 4 ∷ 0 ∷ 6 ∷ 10 ∷ 6 ∷ 2 ∷ 2 ∷ 3 ∷ 7 ∷ 0 ∷ 1 ∷ 13 ∷ 5 ∷ 6 ∷ 2 ∷ 7 ∷ 6 ∷ 3 ∷ 7 ∷ 2 ∷ 2 ∷ 0 ∷ 4 ∷ 9 ∷ 1 ∷ 1 ∷ 1 ∷ 21 ∷ 4 ∷ 0 ∷ 3 ∷ 21 ∷ 5 ∷ 6 ∷ 3 ∷ 11 ∷ 6 ∷ 1 ∷ 5 ∷ 0 ∷ 6 ∷ 0 ∷ 4 ∷ 4 ∷ 5 ∷ 2 ∷ 4 ∷ 7 ∷ 1 ∷ 3 ∷ 6 ∷ 6 ∷ 4 ∷ 7 ∷ 2 ∷ 12 ∷ 5 ∷ 7 ∷ 5 ∷ 18 ∷ 2 ∷ 6 ∷ 2 ∷ 6 ∷ 4 ∷ 1 ∷ 1 ∷ 4 ∷ 2 ∷ 7 ∷ 5 ∷ 11 ∷ 0 ∷ 6 ∷ 2 ∷ []
unfolding codes state draw place_of random_program
codes_of_forty_two = refl

drawn_of_greatest : drawn 18446744073709551615
    ≡ 500 ∷ 2000 ∷ 6000 ∷ 2 ∷ 0 ∷ 3 ∷ 0 ∷ 2 ∷ 8 ∷ 120 ∷ 253 ∷ 32 ∷ 65 ∷ 417 ∷ 9 ∷ 13 ∷ []
unfolding drawn state draw place_of
drawn_of_greatest = refl

found_in_greatest : found 18446744073709551615 ≡ 500 ∷ 51 ∷ 13 ∷ 436 ∷ 2000 ∷ 389 ∷ 13 ∷ 1598 ∷ 6000 ∷ 1840 ∷ 0 ∷ 4160 ∷ []
unfolding found state draw place_of digits
found_in_greatest = refl

codes_of_greatest : codes 18446744073709551615
    ≡ 21 ∷ 0 ∷ 2 ∷ 6 ∷ 4 ∷ 1 ∷ 4 ∷ 2 ∷ 19 ∷ 1 ∷ 4 ∷ 1 ∷ 22 ∷ 5 ∷ 5 ∷ 5 ∷ 2 ∷ 6 ∷ 3 ∷ 2 ∷ 20 ∷ 0 ∷ 3 ∷ 4 ∷ 21 ∷ 2 ∷ 4 ∷ 4 ∷ 4 ∷ 0 ∷ 3 ∷ 0 ∷ 4 ∷ 5 ∷ 3 ∷ 2 ∷ 21 ∷ 1 ∷ 2 ∷ 6 ∷ 9 ∷ 6 ∷ 7 ∷ 1 ∷ 3 ∷ 6 ∷ 4 ∷ 5 ∷ 11 ∷ 7 ∷ 6 ∷ 7 ∷ 22 ∷ 3 ∷ 4 ∷ 2 ∷ 19 ∷ 6 ∷ 4 ∷ 0 ∷ 1 ∷ 0 ∷ 1 ∷ 2 ∷ 22 ∷ 7 ∷ 7 ∷ 3 ∷ 10 ∷ 7 ∷ 6 ∷ 2 ∷ 18 ∷ 0 ∷ 7 ∷ 5 ∷ 18 ∷ 2 ∷ 4 ∷ 1 ∷ 3 ∷ 0 ∷ 5 ∷ 2 ∷ 1 ∷ 3 ∷ 7 ∷ 0 ∷ 21 ∷ 1 ∷ 0 ∷ 6 ∷ 13 ∷ 1 ∷ 1 ∷ 7 ∷ 9 ∷ 3 ∷ 3 ∷ 2 ∷ 17 ∷ 3 ∷ 4 ∷ 0 ∷ 4 ∷ 7 ∷ 6 ∷ 2 ∷ 20 ∷ 6 ∷ 0 ∷ 0 ∷ 22 ∷ 4 ∷ 5 ∷ 3 ∷ 2 ∷ 4 ∷ 0 ∷ 2 ∷ 12 ∷ 6 ∷ 6 ∷ 0 ∷ 16 ∷ 5 ∷ 2 ∷ 6 ∷ 8 ∷ 0 ∷ 2 ∷ 6 ∷ 20 ∷ 5 ∷ 6 ∷ 4 ∷ 13 ∷ 4 ∷ 6 ∷ 3 ∷ 0 ∷ 5 ∷ 7 ∷ 3 ∷ 3 ∷ 4 ∷ 0 ∷ 6 ∷ 12 ∷ 0 ∷ 5 ∷ 3 ∷ 3 ∷ 3 ∷ 6 ∷ 7 ∷ 1 ∷ 1 ∷ 6 ∷ 4 ∷ 5 ∷ 0 ∷ 7 ∷ 1 ∷ 0 ∷ 2 ∷ 6 ∷ 6 ∷ 19 ∷ 6 ∷ 1 ∷ 3 ∷ 18 ∷ 6 ∷ 6 ∷ 7 ∷ 7 ∷ 4 ∷ 4 ∷ 2 ∷ 14 ∷ 3 ∷ 1 ∷ 7 ∷ 17 ∷ 3 ∷ 3 ∷ 0 ∷ 20 ∷ 3 ∷ 0 ∷ 2 ∷ 21 ∷ 0 ∷ 5 ∷ 1 ∷ 17 ∷ 3 ∷ 0 ∷ 0 ∷ 0 ∷ 2 ∷ 1 ∷ 4 ∷ 0 ∷ 0 ∷ 5 ∷ 7 ∷ 5 ∷ 0 ∷ 0 ∷ 0 ∷ 1 ∷ 0 ∷ 2 ∷ 7 ∷ 12 ∷ 2 ∷ 7 ∷ 2 ∷ 12 ∷ 7 ∷ 6 ∷ 7 ∷ 10 ∷ 3 ∷ 4 ∷ 7 ∷ 4 ∷ 4 ∷ 7 ∷ 3 ∷ 15 ∷ 5 ∷ 5 ∷ 5 ∷ 2 ∷ 1 ∷ 5 ∷ 4 ∷ 0 ∷ 2 ∷ 4 ∷ 6 ∷ 19 ∷ 6 ∷ 6 ∷ 1 ∷ 1 ∷ 0 ∷ 6 ∷ 5 ∷ 8 ∷ 0 ∷ 4 ∷ 5 ∷ 1 ∷ 1 ∷ 11 ∷ 0 ∷ 22 ∷ 7 ∷ 0 ∷ 0 ∷ 17 ∷ 0 ∷ 0 ∷ 0 ∷ 17 ∷ 0 ∷ 0 ∷ 0 ∷ 19 ∷ 2 ∷ 5 ∷ 5 ∷ 20 ∷ 3 ∷ 1 ∷ 4 ∷ 7 ∷ 1 ∷ 3 ∷ 4 ∷ 4 ∷ 4 ∷ 3 ∷ 5 ∷ 1 ∷ 4 ∷ 1 ∷ 5 ∷ 10 ∷ 3 ∷ 5 ∷ 1 ∷ 0 ∷ 7 ∷ 5 ∷ 5 ∷ 22 ∷ 5 ∷ 0 ∷ 3 ∷ 3 ∷ 4 ∷ 4 ∷ 5 ∷ 2 ∷ 1 ∷ 0 ∷ 3 ∷ 19 ∷ 0 ∷ 0 ∷ 7 ∷ 6 ∷ 5 ∷ 1 ∷ 1 ∷ 5 ∷ 3 ∷ 7 ∷ 1 ∷ 11 ∷ 1 ∷ 0 ∷ 3 ∷ 22 ∷ 0 ∷ 5 ∷ 2 ∷ 21 ∷ 0 ∷ 4 ∷ 5 ∷ 17 ∷ 2 ∷ 6 ∷ 7 ∷ 18 ∷ 1 ∷ 0 ∷ 3 ∷ 3 ∷ 7 ∷ 2 ∷ 2 ∷ 16 ∷ 3 ∷ 4 ∷ 3 ∷ 15 ∷ 5 ∷ 3 ∷ 7 ∷ 5 ∷ 2 ∷ 4 ∷ 4 ∷ 0 ∷ 6 ∷ 2 ∷ 1 ∷ 0 ∷ 2 ∷ 5 ∷ 3 ∷ 20 ∷ 0 ∷ 6 ∷ 2 ∷ 5 ∷ 1 ∷ 4 ∷ 1 ∷ 6 ∷ 1 ∷ 1 ∷ 6 ∷ 3 ∷ 7 ∷ 4 ∷ 3 ∷ 13 ∷ 6 ∷ 3 ∷ 6 ∷ 16 ∷ 6 ∷ 7 ∷ 6 ∷ 1 ∷ 2 ∷ 6 ∷ 2 ∷ 1 ∷ 4 ∷ 7 ∷ 4 ∷ 22 ∷ 1 ∷ 0 ∷ 0 ∷ 17 ∷ 0 ∷ 0 ∷ 0 ∷ 1 ∷ 1 ∷ 54 ∷ 3 ∷ 22 ∷ 7 ∷ 0 ∷ 0 ∷ 17 ∷ 0 ∷ 0 ∷ 0 ∷ []
unfolding codes state draw place_of random_program
codes_of_greatest = refl
