-- A configuration that breaks no rule breaks none with another budget that both switches and a tick fit in.
use Rattle.dk_plan.proofs.Names.{◌≡◌, ◌∙◌, sym, ap, refl, subst, ℕ, zero, suc, ◌+◌, ◌*◌, ◌<◌, ◌≤◌, ◌||◌, List, [], ◌∷◌, ◌++◌, length, arith, None, nat_lt, ◌==◌, list_any, bytes_eq, nat_tests, MAX_SPAN, ProcessRow, Configuration, Mutex, Test, first_broken, each_row, test_of, version_tests, count_tests, period_tests, cost_ranges, level_ranges, process_ranges, mutex_ranges, process_names, mutex_names, process_again, mutex_again, process_level, mutex_ceiling, budget_room, mutex_users, slowest_level, is_wrong_user, has_twice, BreaksNoRule, both_pass, parts_pass, rows_with_budget, with_budget}
use Rattle.dk_config.specs.declared.fault.Section.TheVariants as section
use Rattle.dk_config.specs.declared.fault.Field.TheVariants as field
use Rattle.dk_config.specs.Rules.{all_tests, range_tests, name_tests, again_tests, level_tests, budget_tests, user_tests, slowest_tests}
use Rattle.dk_plan.proofs.Rows.{length-rows_with_budget, list_any-front, find-rows_with_budget}

-- another first part, or another rest
first_part : (ts us vs : List Test) → (first_broken ts ≡ None → first_broken us ≡ None) → first_broken (ts ++ vs) ≡ None → first_broken (us ++ vs) ≡ None
first_part ts us vs change h = let both = parts_pass ts vs h in both_pass us vs (change both.0) both.1

-- rows whose tests are the same
pub each_row-same : {R : Type 0} (t u : ℕ → R → List Test) → ((i : ℕ) (row : R) → t i row ≡ u i row) → (i : ℕ) (rows : List R) → each_row t i rows ≡ each_row u i rows
each_row-same t u same i [] = refl
each_row-same t u same i (row ∷ rows) = ap (λ ts. ts ++ each_row t (suc i) rows) (same i row) ∙ ap (λ ts. u i row ++ ts) (each_row-same t u same (suc i) rows)

module _ (b : ℕ) (tests : ℕ → ProcessRow → List Test) where
  -- the tests of the row with the budget pass where those of the row do
  rows_pass : ((i : ℕ) (row : ProcessRow) → first_broken (tests i row) ≡ None → first_broken (tests i (record row { budget = b })) ≡ None)
      → (i : ℕ) (rows : List ProcessRow) (p : ℕ) → first_broken (each_row tests i rows) ≡ None → first_broken (each_row tests i (rows_with_budget rows p b)) ≡ None
  rows_pass keeps i [] p h = h
  rows_pass keeps i (row ∷ rows) zero h = grind (arith, nat_tests, parts_pass, both_pass)
  rows_pass keeps i (row ∷ rows) (suc p) h = grind (arith, nat_tests, parts_pass, both_pass, rows_pass keeps (suc i) rows p)

  -- the row's own tests
  own_passes : (i : ℕ) (rows : List ProcessRow) (p : ℕ) → p < length rows → first_broken (each_row tests i (rows_with_budget rows p b)) ≡ None
      → (k : ℕ) × (row : ProcessRow) × (first_broken (tests k (record row { budget = b })) ≡ None)
  own_passes i [] p inside h = absurd (omega arith)
  own_passes i (row ∷ rows) zero inside h = (i, row, (parts_pass (tests i (record row { budget = b })) (each_row tests (suc i) rows) h).0)
  own_passes i (row ∷ rows) (suc p) inside h = own_passes (suc i) rows p (omega arith) (parts_pass (tests i row) (each_row tests (suc i) (rows_with_budget rows p b)) h).1

range_kept : (b i : ℕ) (row : ProcessRow) → 1 ≤ b → b ≤ MAX_SPAN → first_broken (process_ranges i row) ≡ None → first_broken (process_ranges i (record row { budget = b })) ≡ None
range_kept b i row some few h = grind (arith, nat_tests)

range_of : (b i : ℕ) (row : ProcessRow) → first_broken (process_ranges i (record row { budget = b })) ≡ None → b ≤ MAX_SPAN
range_of b i row h = grind (arith, nat_tests)

room_kept : (b switch i : ℕ) (row : ProcessRow) → 2 * switch + 1 ≤ b → first_broken (budget_room switch i (record row { budget = b })) ≡ None
room_kept b switch i row least = grind (arith, nat_tests)

room_of : (b switch i : ℕ) (row : ProcessRow) → first_broken (budget_room switch i (record row { budget = b })) ≡ None → 2 * switch + 1 ≤ b
room_of b switch i row h = grind (arith, nat_tests)

-- names and mutexes don't look at budgets
names_again : (b : ℕ) (rows : List ProcessRow) (p i : ℕ) (row : ProcessRow) → process_again (rows_with_budget rows p b) i row ≡ process_again rows i row
names_again b rows p i row = ap (λ t. test_of 9 section.Process i field.Name t ∷ []) (list_any-front b (λ q. bytes_eq q.name row.name) (λ q. refl) rows p i)

wrong_user : (b : ℕ) (rows : List ProcessRow) (p ceiling : ℕ) (user : List ℕ) → is_wrong_user (rows_with_budget rows p b) ceiling user ≡ is_wrong_user rows ceiling user
wrong_user b rows p ceiling user = find-rows_with_budget b (λ q. bytes_eq q.name user) (λ q. refl) (λ q. nat_lt q.level ceiling) (λ q. refl) rows p

wrong_users : (b : ℕ) (rows : List ProcessRow) (p ceiling : ℕ) (users : List (List ℕ)) → list_any (is_wrong_user (rows_with_budget rows p b) ceiling) users ≡ list_any (is_wrong_user rows ceiling) users
wrong_users b rows p ceiling [] = refl
wrong_users b rows p ceiling (user ∷ users) = grind (arith, nat_tests, wrong_user, wrong_users b rows p ceiling users)

users_same : (b : ℕ) (rows : List ProcessRow) (p i : ℕ) (m : Mutex) → mutex_users (rows_with_budget rows p b) i m ≡ mutex_users rows i m
users_same b rows p i m = ap (λ t. test_of 12 section.Mutex i field.Users ((length m.users == 0 || t) || has_twice m.users) ∷ []) (wrong_users b rows p m.ceiling m.users)

module _ (c : Configuration) (p b : ℕ) where
  abbrev rows : List ProcessRow
  rows = rows_with_budget c.processes p b

  pub room_needed : p < length c.processes → BreaksNoRule (with_budget c p b) → 2 * c.costs.switch + 1 ≤ b
  unfolding all_tests budget_tests
  room_needed inside h = grind (arith, nat_tests, parts_pass, own_passes, room_of)

  pub range_needed : p < length c.processes → BreaksNoRule (with_budget c p b) → b ≤ MAX_SPAN
  unfolding all_tests range_tests
  range_needed inside h = grind (arith, nat_tests, parts_pass, own_passes, range_of)

  ranges_kept : 1 ≤ b → b ≤ MAX_SPAN → first_broken (range_tests c.costs c.levels c.processes c.mutexes) ≡ None → first_broken (range_tests c.costs c.levels rows c.mutexes) ≡ None
  unfolding range_tests
  ranges_kept some few h =
      let costs = parts_pass (cost_ranges c.costs) (each_row level_ranges 0 c.levels ++ (each_row process_ranges 0 c.processes ++ each_row mutex_ranges 0 c.mutexes)) h in
      let levels = parts_pass (each_row level_ranges 0 c.levels) (each_row process_ranges 0 c.processes ++ each_row mutex_ranges 0 c.mutexes) costs.1 in
      let rest = first_part (each_row process_ranges 0 c.processes) (each_row process_ranges 0 rows) (each_row mutex_ranges 0 c.mutexes)
      (rows_pass b process_ranges (λ i row. range_kept b i row some few) 0 c.processes p) levels.1 in
      both_pass (cost_ranges c.costs) (each_row level_ranges 0 c.levels ++ (each_row process_ranges 0 rows ++ each_row mutex_ranges 0 c.mutexes)) costs.0
      (both_pass (each_row level_ranges 0 c.levels) (each_row process_ranges 0 rows ++ each_row mutex_ranges 0 c.mutexes) levels.0 rest)

  names_kept : first_broken (name_tests c.processes c.mutexes) ≡ None → first_broken (name_tests rows c.mutexes) ≡ None
  unfolding name_tests
  names_kept = first_part (each_row process_names 0 c.processes) (each_row process_names 0 rows) (each_row mutex_names 0 c.mutexes) (rows_pass b process_names (λ i row h. h) 0 c.processes p)

  again_kept : first_broken (again_tests c.processes c.mutexes) ≡ None → first_broken (again_tests rows c.mutexes) ≡ None
  unfolding again_tests
  again_kept =
      first_part (each_row (process_again c.processes) 0 c.processes) (each_row (process_again rows) 0 rows) (each_row (mutex_again c.mutexes) 0 c.mutexes)
      (λ h. (let kept = rows_pass b (process_again c.processes) (λ i row h. h) 0 c.processes p h in
      subst (λ ts. first_broken ts ≡ None) (sym (each_row-same (process_again rows) (process_again c.processes) (names_again b c.processes p) 0 rows)) kept))

  levels_kept : first_broken (level_tests (length c.levels) c.processes c.mutexes) ≡ None → first_broken (level_tests (length c.levels) rows c.mutexes) ≡ None
  unfolding level_tests
  levels_kept =
      first_part (each_row (process_level (length c.levels)) 0 c.processes) (each_row (process_level (length c.levels)) 0 rows) (each_row (mutex_ceiling (length c.levels)) 0 c.mutexes)
      (rows_pass b (process_level (length c.levels)) (λ i row h. h) 0 c.processes p)

  budgets_kept : 2 * c.costs.switch + 1 ≤ b → first_broken (budget_tests c.costs.switch c.processes) ≡ None → first_broken (budget_tests c.costs.switch rows) ≡ None
  unfolding budget_tests
  budgets_kept least = rows_pass b (budget_room c.costs.switch) (λ i row h. room_kept b c.costs.switch i row least) 0 c.processes p

  users_kept : first_broken (user_tests c.processes c.mutexes) ≡ None → first_broken (user_tests rows c.mutexes) ≡ None
  unfolding user_tests
  users_kept = subst (λ ts. first_broken ts ≡ None) (sym (each_row-same (mutex_users rows) (mutex_users c.processes) (users_same b c.processes p) 0 c.mutexes))

  slowest_kept : first_broken (slowest_tests c.version (length c.levels) c.processes) ≡ None → first_broken (slowest_tests c.version (length c.levels) rows) ≡ None
  unfolding slowest_tests
  slowest_kept = rows_pass b (slowest_level c.version (length c.levels)) (λ i row h. h) 0 c.processes p

  pub unbroken-with : BreaksNoRule c → 2 * c.costs.switch + 1 ≤ b → b ≤ MAX_SPAN → BreaksNoRule (with_budget c p b)
  unfolding all_tests
  unbroken-with h least most =
      let from_4 = parts_pass (version_tests c.version) _ h in
      let from_5 = parts_pass (count_tests c.version (length c.levels) (length c.processes) (length c.mutexes)) _ from_4.1 in
      let from_6 = parts_pass (range_tests c.costs c.levels c.processes c.mutexes) _ from_5.1 in
      let from_7 = parts_pass (period_tests c.levels) _ from_6.1 in
      let from_8 = parts_pass (name_tests c.processes c.mutexes) _ from_7.1 in
      let from_9 = parts_pass (again_tests c.processes c.mutexes) _ from_8.1 in
      let from_10 = parts_pass (level_tests (length c.levels) c.processes c.mutexes) _ from_9.1 in
      let from_11 = parts_pass (budget_tests c.costs.switch c.processes) _ from_10.1 in
      let from_12 = parts_pass (user_tests c.processes c.mutexes) (slowest_tests c.version (length c.levels) c.processes) from_11.1 in
      let counts = subst (λ n. first_broken (count_tests c.version (length c.levels) n (length c.mutexes)) ≡ None) (sym (length-rows_with_budget b c.processes p)) from_5.0 in
      both_pass (version_tests c.version) _ from_4.0
      (both_pass (count_tests c.version (length c.levels) (length rows) (length c.mutexes)) _ counts
      (both_pass (range_tests c.costs c.levels rows c.mutexes) _ (ranges_kept (omega (arith, least)) most from_6.0)
      (both_pass (period_tests c.levels) _ from_7.0
      (both_pass (name_tests rows c.mutexes) _ (names_kept from_8.0)
      (both_pass (again_tests rows c.mutexes) _ (again_kept from_9.0)
      (both_pass (level_tests (length c.levels) rows c.mutexes) _ (levels_kept from_10.0)
      (both_pass (budget_tests c.costs.switch rows) _ (budgets_kept least from_11.0)
      (both_pass (user_tests rows c.mutexes) (slowest_tests c.version (length c.levels) rows) (users_kept from_12.0) (slowest_kept from_12.1)))))))))
