-- A configuration that breaks no rule breaks none with another hold from 1 to 1,000,000.
use Rattle.dk_margins.proofs.Names.{◌≡◌, sym, ap, refl, subst, ℕ, zero, suc, ◌+◌, ◌≤◌, ◌||◌, List, [], ◌∷◌, ◌++◌, length, take, arith, None, Some, slice_get, Bool, list_any, bytes_eq, nat_tests, each_row-same, MAX_SPAN, Configuration, Mutex, Test, first_broken, each_row, test_of, version_tests, count_tests, period_tests, budget_tests, slowest_tests, cost_ranges, level_ranges, process_ranges, mutex_ranges, process_names, mutex_names, process_again, mutex_again, process_level, mutex_ceiling, mutex_users, BreaksNoRule, parts_pass, row_passes, rows_with_hold, with_hold}
use Rattle.dk_config.specs.declared.fault.Section.TheVariants as section
use Rattle.dk_config.specs.declared.fault.Field.TheVariants as field
use Rattle.dk_config.specs.Rules.{all_tests, range_tests, name_tests, again_tests, level_tests, user_tests}
use Rattle.dk_margins.proofs.Keeping.{Keeps, keeps_both, keeps_same}

module _ (h : ℕ) where
  pub length-with : (rows : List Mutex) (m : ℕ) → length (rows_with_hold rows m h) ≡ length rows
  length-with [] m = refl
  length-with (row ∷ rows) zero = refl
  length-with (row ∷ rows) (suc m) = ap suc (length-with rows m)

  pub row-with : (rows : List Mutex) (m : ℕ) (row : Mutex) → slice_get rows m ≡ Some row → slice_get (rows_with_hold rows m h) m ≡ Some (record row { hold = h })
  row-with [] m row there = absurd (cc)
  row-with (first ∷ rows) zero row there = let is : first ≡ row = cc in ap (λ (r : Mutex). Some (record r { hold = h })) is
  row-with (first ∷ rows) (suc m) row there = row-with rows m row there

  any-front : (test : Mutex → Bool) → ((row : Mutex) → test (record row { hold = h }) ≡ test row) → (rows : List Mutex) (m n : ℕ)
      → list_any test (take n (rows_with_hold rows m h)) ≡ list_any test (take n rows)
  any-front test same rows m zero = refl
  any-front test same [] m (suc n) = refl
  any-front test same (row ∷ rows) zero (suc n) = ap (λ t. t || list_any test (take n rows)) (same row)
  any-front test same (row ∷ rows) (suc m) (suc n) = ap (λ t. test row || t) (any-front test same rows m n)

  rows_keep : (tests : ℕ → Mutex → List Test) → ((i : ℕ) (row : Mutex) → Keeps (tests i row) (tests i (record row { hold = h }))) → (i : ℕ) (rows : List Mutex) (m : ℕ)
      → Keeps (each_row tests i rows) (each_row tests i (rows_with_hold rows m h))
  rows_keep tests keeps i [] m = λ k. k
  rows_keep tests keeps i (row ∷ rows) zero =
      keeps_both (tests i row) (tests i (record row { hold = h })) (each_row tests (suc i) rows) (each_row tests (suc i) rows) (keeps i row) (λ k. k)
  rows_keep tests keeps i (row ∷ rows) (suc m) =
      keeps_both (tests i row) (tests i row) (each_row tests (suc i) rows) (each_row tests (suc i) (rows_with_hold rows m h)) (λ k. k) (rows_keep tests keeps (suc i) rows m)

range_kept : (h i : ℕ) (row : Mutex) → 1 ≤ h → h ≤ MAX_SPAN → Keeps (mutex_ranges i row) (mutex_ranges i (record row { hold = h }))
range_kept h i row some few k = grind (arith, nat_tests)

range_of : (i : ℕ) (row : Mutex) → first_broken (mutex_ranges i row) ≡ None → (1 ≤ row.hold) × (row.hold ≤ MAX_SPAN)
range_of i row k = (grind (arith, nat_tests), grind (arith, nat_tests))

module _ (c : Configuration) (m h : ℕ) where
  abbrev rows : List Mutex
  rows = rows_with_hold c.mutexes m h

  -- a hold that breaks no rule is in its range
  pub range_needed : (row : Mutex) → slice_get c.mutexes m ≡ Some row → BreaksNoRule (with_hold c m h) → (1 ≤ h) × (h ≤ MAX_SPAN)
  unfolding all_tests range_tests
  range_needed row there k =
      let from_5 = (parts_pass (version_tests c.version) _ k).1 in
      let from_6 = (parts_pass (count_tests c.version (length c.levels) (length c.processes) (length rows)) _ from_5).1 in
      let at_6 = (parts_pass (range_tests c.costs c.levels c.processes rows) _ from_6).0 in
      let costs = parts_pass (cost_ranges c.costs) (each_row level_ranges 0 c.levels ++ (each_row process_ranges 0 c.processes ++ each_row mutex_ranges 0 rows)) at_6 in
      let levels = parts_pass (each_row level_ranges 0 c.levels) (each_row process_ranges 0 c.processes ++ each_row mutex_ranges 0 rows) costs.1 in
      let mutexes = (parts_pass (each_row process_ranges 0 c.processes) (each_row mutex_ranges 0 rows) levels.1).1 in
      range_of (0 + m) (record row { hold = h }) (row_passes mutex_ranges 0 rows m (record row { hold = h }) mutexes (row-with h c.mutexes m row there))

  again_kept : Keeps (each_row (mutex_again c.mutexes) 0 c.mutexes) (each_row (mutex_again rows) 0 rows)
  again_kept k =
      subst (λ ts. first_broken ts ≡ None)
      (sym (each_row-same (mutex_again rows) (mutex_again c.mutexes)
      (λ i row. ap (λ t. test_of 9 section.Mutex i field.Name t ∷ []) (any-front h (λ q. bytes_eq q.name row.name) (λ q. refl) c.mutexes m i)) 0 rows))
      (rows_keep h (mutex_again c.mutexes) (λ i row k. k) 0 c.mutexes m k)

  pub unbroken-with : BreaksNoRule c → 1 ≤ h → h ≤ MAX_SPAN → BreaksNoRule (with_hold c m h)
  unfolding all_tests range_tests name_tests again_tests level_tests user_tests
  unbroken-with k some few =
      let n = length c.levels in
      let ps = c.processes in
      let counts : Keeps (count_tests c.version n (length ps) (length c.mutexes)) (count_tests c.version n (length ps) (length rows)) =
      keeps_same (count_tests c.version n (length ps) (length c.mutexes)) (count_tests c.version n (length ps) (length rows))
      (ap (count_tests c.version n (length ps)) (sym (length-with h c.mutexes m))) in
      let mutex_part = rows_keep h mutex_ranges (λ i row. range_kept h i row some few) 0 c.mutexes m in
      let ranges : Keeps (range_tests c.costs c.levels ps c.mutexes) (range_tests c.costs c.levels ps rows) =
      keeps_both (cost_ranges c.costs) (cost_ranges c.costs) (each_row level_ranges 0 c.levels ++ (each_row process_ranges 0 ps ++ each_row mutex_ranges 0 c.mutexes))
      (each_row level_ranges 0 c.levels ++ (each_row process_ranges 0 ps ++ each_row mutex_ranges 0 rows)) (λ k. k)
      (keeps_both (each_row level_ranges 0 c.levels) (each_row level_ranges 0 c.levels) (each_row process_ranges 0 ps ++ each_row mutex_ranges 0 c.mutexes)
      (each_row process_ranges 0 ps ++ each_row mutex_ranges 0 rows) (λ k. k)
      (keeps_both (each_row process_ranges 0 ps) (each_row process_ranges 0 ps) (each_row mutex_ranges 0 c.mutexes) (each_row mutex_ranges 0 rows) (λ k. k) mutex_part)) in
      let names : Keeps (name_tests ps c.mutexes) (name_tests ps rows) =
      keeps_both (each_row process_names 0 ps) (each_row process_names 0 ps) (each_row mutex_names 0 c.mutexes) (each_row mutex_names 0 rows) (λ k. k)
      (rows_keep h mutex_names (λ i row k. k) 0 c.mutexes m) in
      let agains : Keeps (again_tests ps c.mutexes) (again_tests ps rows) =
      keeps_both (each_row (process_again ps) 0 ps) (each_row (process_again ps) 0 ps) (each_row (mutex_again c.mutexes) 0 c.mutexes) (each_row (mutex_again rows) 0 rows) (λ k. k) again_kept in
      let levels : Keeps (level_tests n ps c.mutexes) (level_tests n ps rows) =
      keeps_both (each_row (process_level n) 0 ps) (each_row (process_level n) 0 ps) (each_row (mutex_ceiling n) 0 c.mutexes) (each_row (mutex_ceiling n) 0 rows) (λ k. k)
      (rows_keep h (mutex_ceiling n) (λ i row k. k) 0 c.mutexes m) in
      let users : Keeps (user_tests ps c.mutexes) (user_tests ps rows) = rows_keep h (mutex_users ps) (λ i row k. k) 0 c.mutexes m in
      keeps_both (version_tests c.version) (version_tests c.version) _ _ (λ k. k)
      (keeps_both (count_tests c.version n (length ps) (length c.mutexes)) (count_tests c.version n (length ps) (length rows)) _ _ counts
      (keeps_both (range_tests c.costs c.levels ps c.mutexes) (range_tests c.costs c.levels ps rows) _ _ ranges
      (keeps_both (period_tests c.levels) (period_tests c.levels) _ _ (λ k. k)
      (keeps_both (name_tests ps c.mutexes) (name_tests ps rows) _ _ names
      (keeps_both (again_tests ps c.mutexes) (again_tests ps rows) _ _ agains
      (keeps_both (level_tests n ps c.mutexes) (level_tests n ps rows) _ _ levels
      (keeps_both (budget_tests c.costs.switch ps) (budget_tests c.costs.switch ps) _ _ (λ k. k)
      (keeps_both (user_tests ps c.mutexes) (user_tests ps rows) (slowest_tests c.version n ps) (slowest_tests c.version n ps) users (λ k. k))))))))) k
