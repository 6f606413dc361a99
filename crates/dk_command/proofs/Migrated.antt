-- A configuration that breaks no rule breaks none in version 2 either.
use Rattle.dk_command.proofs.Names.{◌≡◌, ℕ, suc, List, [], ◌∷◌, ◌++◌, length, refl, arith, None, nat_tests, ProcessRow, Configuration, Test, first_broken, each_row, range_tests, period_tests, name_tests, again_tests, level_tests, budget_tests, user_tests, slowest_level, BreaksNoRule, parts_pass, both_pass, migrated}
use Rattle.dk_config.specs.Rules.{version_tests, slowest_tests}
use Rattle.dk_config.specs.Rules.{all_tests, count_tests}

counts_pass : (version levels processes mutexes : ℕ) → first_broken (count_tests version levels processes mutexes) ≡ None → first_broken (count_tests 2 levels processes mutexes) ≡ None
unfolding count_tests
counts_pass version levels processes mutexes h = grind (arith, nat_tests)

slowest_passes : (version levels i : ℕ) (row : ProcessRow) → first_broken (slowest_level version levels i row) ≡ None → first_broken (slowest_level 2 levels i row) ≡ None
slowest_passes version levels i row h = grind (arith, nat_tests)

all_slowest_pass : (version levels i : ℕ) (rows : List ProcessRow) → first_broken (each_row (slowest_level version levels) i rows) ≡ None → first_broken (each_row (slowest_level 2 levels) i rows) ≡ None
all_slowest_pass version levels i [] h = refl
all_slowest_pass version levels i (row ∷ rows) h =
    let parts = parts_pass (slowest_level version levels i row) (each_row (slowest_level version levels) (suc i) rows) h in
    both_pass (slowest_level 2 levels i row) (each_row (slowest_level 2 levels) (suc i) rows) (slowest_passes version levels i row parts.0) (all_slowest_pass version levels (suc i) rows parts.1)

-- the last tests, from each family on
abbrev after_8 : ℕ → Configuration → List Test
after_8 v c = user_tests c.processes c.mutexes ++ slowest_tests v (length c.levels) c.processes

abbrev after_7 : ℕ → Configuration → List Test
after_7 v c = budget_tests c.costs.switch c.processes ++ after_8 v c

abbrev after_6 : ℕ → Configuration → List Test
after_6 v c = level_tests (length c.levels) c.processes c.mutexes ++ after_7 v c

abbrev after_5 : ℕ → Configuration → List Test
after_5 v c = again_tests c.processes c.mutexes ++ after_6 v c

abbrev after_4 : ℕ → Configuration → List Test
after_4 v c = name_tests c.processes c.mutexes ++ after_5 v c

abbrev after_3 : ℕ → Configuration → List Test
after_3 v c = period_tests c.levels ++ after_4 v c

abbrev after_2 : ℕ → Configuration → List Test
after_2 v c = range_tests c.costs c.levels c.processes c.mutexes ++ after_3 v c

abbrev after_1 : ℕ → Configuration → List Test
after_1 v c = count_tests v (length c.levels) (length c.processes) (length c.mutexes) ++ after_2 v c

pub still_unbroken : (c : Configuration) → BreaksNoRule c → BreaksNoRule (migrated c)
unfolding all_tests version_tests slowest_tests
still_unbroken c h =
    let v = c.version in
    let from_1 = (parts_pass (version_tests v) (after_1 v c) h).1 in
    let at_1 = parts_pass (count_tests v (length c.levels) (length c.processes) (length c.mutexes)) (after_2 v c) from_1 in
    let at_2 = parts_pass (range_tests c.costs c.levels c.processes c.mutexes) (after_3 v c) at_1.1 in
    let at_3 = parts_pass (period_tests c.levels) (after_4 v c) at_2.1 in
    let at_4 = parts_pass (name_tests c.processes c.mutexes) (after_5 v c) at_3.1 in
    let at_5 = parts_pass (again_tests c.processes c.mutexes) (after_6 v c) at_4.1 in
    let at_6 = parts_pass (level_tests (length c.levels) c.processes c.mutexes) (after_7 v c) at_5.1 in
    let at_7 = parts_pass (budget_tests c.costs.switch c.processes) (after_8 v c) at_6.1 in
    let at_8 = parts_pass (user_tests c.processes c.mutexes) (slowest_tests v (length c.levels) c.processes) at_7.1 in
    both_pass (version_tests 2) (after_1 2 c) refl
    (both_pass (count_tests 2 (length c.levels) (length c.processes) (length c.mutexes)) (after_2 2 c) (counts_pass v (length c.levels) (length c.processes) (length c.mutexes) at_1.0)
    (both_pass (range_tests c.costs c.levels c.processes c.mutexes) (after_3 2 c) at_2.0
    (both_pass (period_tests c.levels) (after_4 2 c) at_3.0
    (both_pass (name_tests c.processes c.mutexes) (after_5 2 c) at_4.0
    (both_pass (again_tests c.processes c.mutexes) (after_6 2 c) at_5.0
    (both_pass (level_tests (length c.levels) c.processes c.mutexes) (after_7 2 c) at_6.0
    (both_pass (budget_tests c.costs.switch c.processes) (after_8 2 c) at_7.0
    (both_pass (user_tests c.processes c.mutexes) (slowest_tests 2 (length c.levels) c.processes) at_8.0
    (all_slowest_pass v (length c.levels) 0 c.processes at_8.1)))))))))
