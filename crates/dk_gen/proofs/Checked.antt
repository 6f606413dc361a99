-- No rule is broken by the configuration of a number.
use Rattle.std.proofs.Common.{◌≡◌, ◌∙◌, ◌<◌, ◌≤◌, ◌+◌, ◌*◌, ◌%◌, ℕ, inl, inr, Bool, true, false, eqb, List, [], ◌∷◌, ◌++◌, length, map, arith, refl, ap}
use Rattle.std.specs.Prelude.{None, find, nat_lt}
use Rattle.std.specs.List.{list_any}
use Rattle.std.specs.Option.{option_map_or}
use Rattle.std.specs.Str.{bytes_eq}
use Rattle.std.proofs.lemmas.Bool.{cases_Bool, le-ltb, lt-leb, le-leb}
use Rattle.std.proofs.lemmas.Slice.Eq.{bytes_eq-Decides}
use Rattle.std.proofs.Math.Nat.{mul-mod_right, div-le_self}
use Rattle.std.proofs.lemmas.Simd.{map-map}
use Rattle.dk_config.specs.declared.TheConstants.{MAX_COST, MAX_PROCESSES, MAX_SPAN}
use Rattle.dk_config.specs.declared.rows.ProcessRow.{ProcessRow}
use Rattle.dk_config.specs.Checked.{BreaksNoRule}
use Rattle.dk_config.specs.Sums.{below}
use Rattle.dk_config.specs.Tests.{Test, first_broken, each_row}
use Rattle.dk_config.specs.Rules.{all_tests, version_tests, count_tests, range_tests, period_tests, name_tests, again_tests, level_tests, budget_tests, user_tests, slowest_tests, cost_ranges, level_ranges, process_ranges, mutex_ranges, follows, process_names, process_again, process_level, budget_room, slowest_level, is_wrong_user}
use Rattle.dk_gen.specs.Draws.{draw}
use Rattle.dk_gen.specs.Generated.{configuration_of, costs_of, levels_of, level_at, period_at, process_count, processes_of, process_at, budget_of, hold_of, mutex_of, name_of}
use Rattle.dk_config.proofs.Counting.{length-map-numbers}
use Rattle.dk_config.proofs.Passing.{both_pass}
use Rattle.dk_gen.proofs.Lists.{rows_pass, none_of_rows, none_before, one_of_rows, none_twice}
use Rattle.dk_gen.proofs.Passing.{is_inside, not_same}
use Rattle.dk_gen.proofs.Sizes.{draw_most, few_processes, some_processes, period_least, period_most, budget_most, hold_most}
use Rattle.dk_gen.proofs.Names.{names_differ, is_name_of, is_file_name_of}

-- the tests of all processes, where those of each pass
of_processes : (number : ℕ) (tests : ℕ → ProcessRow → List Test) → ((k : ℕ) → k < process_count number → first_broken (tests k (process_at number k)) ≡ None)
    → first_broken (each_row tests 0 (processes_of number)) ≡ None
of_processes number tests each = rows_pass tests (process_at number) 0 (process_count number) (λ k below. each k (omega arith))

versions : first_broken (version_tests 1) ≡ None
unfolding version_tests
versions = refl

counts : (n : ℕ) → 3 ≤ n → n ≤ 8 → first_broken (count_tests 1 3 n 1) ≡ None
unfolding count_tests
counts n some few = rw (is_inside 1 MAX_PROCESSES n (omega arith) (omega arith))

costs_pass : (number : ℕ) → first_broken (cost_ranges (costs_of number)) ≡ None
costs_pass number =
    let switch = draw_most number 6 2 in
    let call = draw_most number 7 1 in
    rw (is_inside 0 MAX_COST (draw number 6 3) (omega arith) (omega (arith, switch)), is_inside 1 MAX_COST (1 + draw number 7 2) (omega arith) (omega (arith, call)))

level_passes : (number j : ℕ) → j < 3 → first_broken (level_ranges j (level_at number j)) ≡ None
level_passes number j below =
    let least = period_least number j in
    let most = period_most number j below in
    let release = draw_most number (3 + j) 3 in
    rw (
      is_inside 1 MAX_SPAN (period_at number j) (omega (arith, least)) (omega (arith, most)),
      is_inside 0 MAX_SPAN (draw number (3 + j) 4) (omega arith) (omega (arith, release)),
    )

mod_three : (k : ℕ) → k % 3 < 3
mod_three k = omega arith

process_passes : (number k : ℕ) → first_broken (process_ranges k (process_at number k)) ≡ None
process_passes number k =
    let budget = budget_most number k in
    let period = period_most number (k % 3) (mod_three k) in
    let share = div-le_self (period_at number (k % 3)) (2 * process_count number) in
    rw (is_inside 1 MAX_SPAN (budget_of number k) (omega arith) (omega (arith, budget, period, share)))

hold_passes : (number : ℕ) → first_broken (mutex_ranges 0 (mutex_of number)) ≡ None
hold_passes number =
    let hold = hold_most number in
    let period = period_most number 0 (omega arith) in
    rw (is_inside 1 MAX_SPAN (hold_of number) (omega arith) (omega (arith, hold, period)))

ranges : (number : ℕ) → first_broken (range_tests (costs_of number) (levels_of number) (processes_of number) (mutex_of number ∷ [])) ≡ None
unfolding range_tests
ranges number =
    both_pass (cost_ranges (costs_of number)) (each_row level_ranges 0 (levels_of number) ++ (each_row process_ranges 0 (processes_of number) ++ mutex_ranges 0 (mutex_of number))) (costs_pass number)
    (both_pass (each_row level_ranges 0 (levels_of number)) (each_row process_ranges 0 (processes_of number) ++ mutex_ranges 0 (mutex_of number)) (rows_pass level_ranges (level_at number) 0 3 (λ j in_three. level_passes number j in_three))
    (both_pass (each_row process_ranges 0 (processes_of number)) (mutex_ranges 0 (mutex_of number)) (of_processes number process_ranges (λ k there. process_passes number k))
    (hold_passes number)))

-- a multiple of a period follows it
follows-times : (p q d e : ℕ) → follows (record { period = p; release = d }) (record { period = p * (2 + q); release = e }) ≡ true
follows-times p q d e = rw (mul-mod_right p (2 + q)) (le-leb (2 * p) (p * (2 + q)) (twice p q))
  where
    twice : (p q : ℕ) → 2 * p ≤ p * (2 + q)
    twice p q = grind arith

periods : (number : ℕ) → first_broken (period_tests (levels_of number)) ≡ None
unfolding period_tests
periods number =
    rw (follows-times (period_at number 0) (draw number 1 3) (draw number 3 4) (draw number 4 4), follows-times (period_at number 1) (draw number 2 3) (draw number 4 4) (draw number 5 4))

named : (number k : ℕ) → k < 10 → first_broken (process_names k (process_at number k)) ≡ None
named number k few = rw (is_name_of k few, is_file_name_of k few)

names : (number : ℕ) → first_broken (name_tests (processes_of number) (mutex_of number ∷ [])) ≡ None
unfolding name_tests
names number =
    let few = few_processes number in
    both_pass (each_row process_names 0 (processes_of number)) _ (of_processes number process_names (λ k there. named number k (omega (arith, few)))) refl

new_name : (number k : ℕ) → k < process_count number → first_broken (process_again (processes_of number) k (process_at number k)) ≡ None
new_name number k there =
    let few = few_processes number in
    let new = none_before (λ q. bytes_eq q.name (name_of k)) (process_at number) 0 (process_count number) k (λ j above before. names_differ j k (omega arith) (omega (arith, few))) in
    rw new

again : (number : ℕ) → first_broken (again_tests (processes_of number) (mutex_of number ∷ [])) ≡ None
unfolding again_tests
again number =
    both_pass (each_row (process_again (processes_of number)) 0 (processes_of number)) _ (of_processes number (process_again (processes_of number)) (new_name number)) refl

known_level : (number k : ℕ) → first_broken (process_level 3 k (process_at number k)) ≡ None
known_level number k = rw (lt-leb 3 (k % 3) (mod_three k))

levels : (number : ℕ) → first_broken (level_tests 3 (processes_of number) (mutex_of number ∷ [])) ≡ None
unfolding level_tests
levels number = both_pass (each_row (process_level 3) 0 (processes_of number)) _ (of_processes number (process_level 3) (λ k there. known_level number k)) refl

enough : (number k : ℕ) → first_broken (budget_room (draw number 6 3) k (process_at number k)) ≡ None
enough number k = rw (le-ltb (budget_of number k) (2 * draw number 6 3 + 1) (omega arith))

budgets : (number : ℕ) → first_broken (budget_tests (draw number 6 3) (processes_of number)) ≡ None
unfolding budget_tests
budgets number = of_processes number (budget_room (draw number 6 3)) (λ k there. enough number k)

-- no level is faster than level 0
found : (test : ProcessRow → Bool) (rows : List ProcessRow) → list_any test rows ≡ true → option_map_or (λ p. nat_lt p.level 0) (find test rows) true ≡ false
found test [] there = absurd (cc)
found test (row ∷ rows) there = elim (cases_Bool (test row)) [
  | inl this ↦ rw this (le-ltb row.level 0 (omega arith))
  | inr other ↦ rw other (found test rows (rw other at there))
]

right_user : (number k : ℕ) → k < process_count number → is_wrong_user (processes_of number) 0 (name_of k) ≡ false
right_user number k there =
    found (λ p. bytes_eq p.name (name_of k)) (processes_of number)
    (one_of_rows (λ p. bytes_eq p.name (name_of k)) (process_at number) 0 (process_count number) k (omega arith) (omega arith) ((bytes_eq-Decides (name_of k) (name_of k)).1 refl))

users : (number : ℕ) → first_broken (user_tests (processes_of number) (mutex_of number ∷ [])) ≡ None
unfolding user_tests
users number =
    let few = few_processes number in
    let same : map (λ row. row.name) (processes_of number) ≡ map name_of (below (process_count number)) = map-map (λ row. row.name) (process_at number) (below (process_count number)) in
    let some : eqb (length (map name_of (below (process_count number)))) 0 ≡ false = rw (length-map-numbers name_of 0 (process_count number)) (not_same (process_count number) 0 (omega arith)) in
    let right = none_of_rows (is_wrong_user (processes_of number) 0) name_of 0 (process_count number) (λ k above there. right_user number k (omega arith)) in
    let once = none_twice name_of 0 (process_count number) (λ j k before there. names_differ j k before (omega (arith, few))) in
    rw (same, some, right, once)

slowest_known : (number k : ℕ) → first_broken (slowest_level 1 3 k (process_at number k)) ≡ None
slowest_known number k = rw (le-ltb 2 (k % 3) (omega arith))

slowest : (number : ℕ) → first_broken (slowest_tests 1 3 (processes_of number)) ≡ None
unfolding slowest_tests
slowest number = of_processes number (slowest_level 1 3) (λ k there. slowest_known number k)

pub unbroken : (number : ℕ) → BreaksNoRule (configuration_of number)
unfolding all_tests
unbroken number =
    both_pass (version_tests 1) _ versions
    (both_pass (count_tests 1 3 (length (processes_of number)) 1) _ (ap (λ n. first_broken (count_tests 1 3 n 1)) (length-map-numbers (process_at number) 0 (process_count number)) ∙ counts (process_count number) (some_processes number) (few_processes number))
    (both_pass (range_tests (costs_of number) (levels_of number) (processes_of number) (mutex_of number ∷ [])) _ (ranges number)
    (both_pass (period_tests (levels_of number)) _ (periods number)
    (both_pass (name_tests (processes_of number) (mutex_of number ∷ [])) _ (names number)
    (both_pass (again_tests (processes_of number) (mutex_of number ∷ [])) _ (again number)
    (both_pass (level_tests 3 (processes_of number) (mutex_of number ∷ [])) _ (levels number)
    (both_pass (budget_tests (draw number 6 3) (processes_of number)) _ (budgets number)
    (both_pass (user_tests (processes_of number) (mutex_of number ∷ [])) _ (users number)
    (slowest number)))))))))
