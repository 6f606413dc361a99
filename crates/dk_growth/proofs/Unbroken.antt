-- A configuration that breaks no rule breaks none with its budgets grown, as long as they are in their range.
use Rattle.std.proofs.Common.{◌≡◌, ◌∙◌, sym, ap, refl, subst, ℕ, suc, ◌+◌, ◌≤◌, ◌||◌, List, [], ◌∷◌, ◌++◌, length, get_or, arith}
use Rattle.std.specs.Prelude.{None, nat_lt, ◌==◌, map, All, slice_get}
use Rattle.std.specs.List.{list_any}
use Rattle.std.specs.Option.{option_map_or}
use Rattle.std.specs.Str.{bytes_eq}
use Rattle.std.proofs.lemmas.Bool.Decides.{nat_tests}
use Rattle.std.proofs.lemmas.List.{length-map}
use Rattle.std.proofs.lemmas.List.Elements.{All-nil, All-cons, All-head, All-tail}
use Rattle.dk_config.specs.declared.TheConstants.{MAX_SPAN}
use Rattle.dk_config.specs.declared.rows.ProcessRow.{ProcessRow}
use Rattle.dk_config.specs.declared.fault.Section.TheVariants as section
use Rattle.dk_config.specs.declared.fault.Field.TheVariants as field
use Rattle.dk_config.specs.Configuration.{Configuration}
use Rattle.dk_config.specs.Mutex.{Mutex}
use Rattle.dk_config.specs.Tests.{Test, first_broken, each_row, test_of}
use Rattle.dk_config.specs.Rules.{all_tests, version_tests, count_tests, range_tests, period_tests, name_tests, again_tests, level_tests, budget_tests, user_tests, slowest_tests, cost_ranges, level_ranges, process_ranges, mutex_ranges, process_names, mutex_names, process_again, mutex_again, process_level, mutex_ceiling, budget_room, mutex_users, slowest_level, is_wrong_user, has_twice}
use Rattle.dk_config.specs.Checked.{BreaksNoRule}
use Rattle.dk_config.proofs.CheckedConfig.{within_limits}
use Rattle.dk_plan.proofs.Unbroken.{each_row-same}
use Rattle.dk_margins.proofs.Keeping.{Keeps, keeps_both, keeps_same}
use Rattle.dk_growth.specs.Growth.{StaysInRange, grown, grown_budget, grown_row}
use Rattle.dk_growth.proofs.Rows.{grown-more, list_any-front, find-grown}

range_with : (b i : ℕ) (row : ProcessRow) → row.budget ≤ b → b ≤ MAX_SPAN → Keeps (process_ranges i row) (process_ranges i (record row { budget = b }))
range_with b i row more few k = grind (arith, nat_tests)

room_with : (b switch i : ℕ) (row : ProcessRow) → row.budget ≤ b → Keeps (budget_room switch i row) (budget_room switch i (record row { budget = b }))
room_with b switch i row more k = grind (arith, nat_tests)

and_more : (b more : ℕ) → b ≤ b + more
and_more b more = omega arith

-- a budget that grows is no less
grows : (p : ℕ) (row : ProcessRow) → row.budget ≤ grown_budget p row.budget
grows p row = and_more row.budget _

module _ (p : ℕ) where
  rows_keep : (tests : ℕ → ProcessRow → List Test) → ((i : ℕ) (row : ProcessRow) → Keeps (tests i row) (tests i (grown_row p row))) → (i : ℕ) (rows : List ProcessRow)
      → Keeps (each_row tests i rows) (each_row tests i (map (grown_row p) rows))
  rows_keep tests keeps i [] = λ k. k
  rows_keep tests keeps i (row ∷ rows) =
      keeps_both (tests i row) (tests i (grown_row p row)) (each_row tests (suc i) rows) (each_row tests (suc i) (map (grown_row p) rows)) (keeps i row) (rows_keep tests keeps (suc i) rows)

  ranges_keep : (i : ℕ) (rows : List ProcessRow) → All (StaysInRange p) rows → Keeps (each_row process_ranges i rows) (each_row process_ranges i (map (grown_row p) rows))
  ranges_keep i [] stay = λ k. k
  ranges_keep i (row ∷ rows) stay =
      keeps_both (process_ranges i row) (process_ranges i (grown_row p row)) (each_row process_ranges (suc i) rows) (each_row process_ranges (suc i) (map (grown_row p) rows))
      (range_with (grown_budget p row.budget) i row (grows p row) (All-head (StaysInRange p) row rows stay)) (ranges_keep (suc i) rows (All-tail (StaysInRange p) row rows stay))

  wrong_user : (rows : List ProcessRow) (ceiling : ℕ) (user : List ℕ) → is_wrong_user (map (grown_row p) rows) ceiling user ≡ is_wrong_user rows ceiling user
  wrong_user rows ceiling user = find-grown p (λ q. bytes_eq q.name user) (λ q. refl) (λ q. nat_lt q.level ceiling) (λ q. refl) rows

  wrong_users : (rows : List ProcessRow) (ceiling : ℕ) (users : List (List ℕ)) → list_any (is_wrong_user (map (grown_row p) rows) ceiling) users ≡ list_any (is_wrong_user rows ceiling) users
  wrong_users rows ceiling [] = refl
  wrong_users rows ceiling (user ∷ users) =
      ap (λ t. t || list_any (is_wrong_user (map (grown_row p) rows) ceiling) users) (wrong_user rows ceiling user) ∙ ap (λ t. is_wrong_user rows ceiling user || t) (wrong_users rows ceiling users)

  users_same : (rows : List ProcessRow) (i : ℕ) (m : Mutex) → mutex_users (map (grown_row p) rows) i m ≡ mutex_users rows i m
  users_same rows i m = ap (λ t. test_of 12 section.Mutex i field.Users ((length m.users == 0 || t) || has_twice m.users) ∷ []) (wrong_users rows m.ceiling m.users)

  again_same : (rows : List ProcessRow) (i : ℕ) (row : ProcessRow) → process_again (map (grown_row p) rows) i row ≡ process_again rows i row
  again_same rows i row = ap (λ t. test_of 9 section.Process i field.Name t ∷ []) (list_any-front p (λ q. bytes_eq q.name row.name) (λ q. refl) rows i)

  stay : (rows : List ProcessRow) → ((k : ℕ) → option_map_or (λ row. row.budget) (slice_get (map (grown_row p) rows) k) 0 ≤ MAX_SPAN) → All (StaysInRange p) rows
  stay [] each = All-nil (StaysInRange p)
  stay (row ∷ rows) each = All-cons (StaysInRange p) row rows (each 0) (stay rows (λ k. each (suc k)))

-- budgets that stay in their range stay in it with a lesser percentage
pub stay_less : (p q : ℕ) (rows : List ProcessRow) → p ≤ q → All (StaysInRange q) rows → All (StaysInRange p) rows
stay_less p q rows h far k d inside =
    let most = far k d inside in
    let more = grown-more p q (get_or rows k d).budget h in
    omega (arith, most, more)

module _ (c : Configuration) (p : ℕ) where
  abbrev rows : List ProcessRow
  rows = map (grown_row p) c.processes

  -- where the grown configuration breaks no rule, its budgets are in their range
  pub stay_needed : BreaksNoRule (grown c p) → All (StaysInRange p) c.processes
  stay_needed k = stay p c.processes (within_limits (grown c p) k).budgets

  again_kept : Keeps (each_row (process_again c.processes) 0 c.processes) (each_row (process_again rows) 0 rows)
  again_kept k =
      subst (λ ts. first_broken ts ≡ None) (sym (each_row-same (process_again rows) (process_again c.processes) (again_same p c.processes) 0 rows))
      (rows_keep p (process_again c.processes) (λ i row k. k) 0 c.processes k)

  pub unbroken-grown : BreaksNoRule c → All (StaysInRange p) c.processes → BreaksNoRule (grown c p)
  unfolding all_tests range_tests name_tests again_tests level_tests budget_tests user_tests slowest_tests
  unbroken-grown k stay =
      let n = length c.levels in
      let ps = c.processes in
      let ms = c.mutexes in
      let counts : Keeps (count_tests c.version n (length ps) (length ms)) (count_tests c.version n (length rows) (length ms)) =
      keeps_same (count_tests c.version n (length ps) (length ms)) (count_tests c.version n (length rows) (length ms))
      (ap (λ l. count_tests c.version n l (length ms)) (sym (length-map ps (grown_row p)))) in
      let ranges : Keeps (range_tests c.costs c.levels ps ms) (range_tests c.costs c.levels rows ms) =
      keeps_both (cost_ranges c.costs) (cost_ranges c.costs) (each_row level_ranges 0 c.levels ++ (each_row process_ranges 0 ps ++ each_row mutex_ranges 0 ms))
      (each_row level_ranges 0 c.levels ++ (each_row process_ranges 0 rows ++ each_row mutex_ranges 0 ms)) (λ k. k)
      (keeps_both (each_row level_ranges 0 c.levels) (each_row level_ranges 0 c.levels) (each_row process_ranges 0 ps ++ each_row mutex_ranges 0 ms)
      (each_row process_ranges 0 rows ++ each_row mutex_ranges 0 ms) (λ k. k)
      (keeps_both (each_row process_ranges 0 ps) (each_row process_ranges 0 rows) (each_row mutex_ranges 0 ms) (each_row mutex_ranges 0 ms) (ranges_keep p 0 ps stay) (λ k. k))) in
      let names : Keeps (name_tests ps ms) (name_tests rows ms) =
      keeps_both (each_row process_names 0 ps) (each_row process_names 0 rows) (each_row mutex_names 0 ms) (each_row mutex_names 0 ms) (rows_keep p process_names (λ i row k. k) 0 ps) (λ k. k) in
      let agains : Keeps (again_tests ps ms) (again_tests rows ms) =
      keeps_both (each_row (process_again ps) 0 ps) (each_row (process_again rows) 0 rows) (each_row (mutex_again ms) 0 ms) (each_row (mutex_again ms) 0 ms) again_kept (λ k. k) in
      let levels : Keeps (level_tests n ps ms) (level_tests n rows ms) =
      keeps_both (each_row (process_level n) 0 ps) (each_row (process_level n) 0 rows) (each_row (mutex_ceiling n) 0 ms) (each_row (mutex_ceiling n) 0 ms)
      (rows_keep p (process_level n) (λ i row k. k) 0 ps) (λ k. k) in
      let budgets : Keeps (budget_tests c.costs.switch ps) (budget_tests c.costs.switch rows) =
      rows_keep p (budget_room c.costs.switch) (λ i row. room_with (grown_budget p row.budget) c.costs.switch i row (grows p row)) 0 ps in
      let users : Keeps (user_tests ps ms) (user_tests rows ms) =
      keeps_same (user_tests ps ms) (user_tests rows ms) (sym (each_row-same (mutex_users rows) (mutex_users ps) (users_same p ps) 0 ms)) in
      let slowest : Keeps (slowest_tests c.version n ps) (slowest_tests c.version n rows) = rows_keep p (slowest_level c.version n) (λ i row k. k) 0 ps in
      keeps_both (version_tests c.version) (version_tests c.version) _ _ (λ k. k)
      (keeps_both (count_tests c.version n (length ps) (length ms)) (count_tests c.version n (length rows) (length ms)) _ _ counts
      (keeps_both (range_tests c.costs c.levels ps ms) (range_tests c.costs c.levels rows ms) _ _ ranges
      (keeps_both (period_tests c.levels) (period_tests c.levels) _ _ (λ k. k)
      (keeps_both (name_tests ps ms) (name_tests rows ms) _ _ names
      (keeps_both (again_tests ps ms) (again_tests rows ms) _ _ agains
      (keeps_both (level_tests n ps ms) (level_tests n rows ms) _ _ levels
      (keeps_both (budget_tests c.costs.switch ps) (budget_tests c.costs.switch rows) _ _ budgets
      (keeps_both (user_tests ps ms) (user_tests rows ms) (slowest_tests c.version n ps) (slowest_tests c.version n rows) users slowest)))))))) k
