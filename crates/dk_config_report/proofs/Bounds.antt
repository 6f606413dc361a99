-- A number that is told isn't one of those told to be allowed.
use Rattle.std.proofs.Common.{◌≡◌, ◌∙◌, sym, ap, refl, subst, ◌+◌, ◌*◌, ◌-◌, ◌%◌, ℕ, suc, Bool, true, false, cond, List, [], ◌∷◌, ◌++◌, length, arith, Option, Some, None}
use Rattle.std.specs.Prelude.{◌==◌, ◌&&◌, ◌||◌, not, nat_lt, nat_le, slice_get}
use Rattle.std.specs.List.{AllByRecursion}
use Rattle.std.specs.Option.{option_map, option_map_or}
use Rattle.std.proofs.lemmas.Bool.Decides.{nat_tests}
use Rattle.dk_config.specs.Configuration.{Configuration}
use Rattle.dk_config.specs.declared.TheConstants.{MAX_LEVELS, MAX_LEVELS_1, MAX_PROCESSES, MAX_MUTEXES, MAX_CHILDREN, MAX_SPAN, MAX_COST, MAX_MEMORY}
use Rattle.dk_config.specs.Mutex.{Mutex}
use Rattle.dk_config.specs.Rules.{version_tests, count_tests, cost_ranges, level_ranges, process_ranges, mutex_ranges, range_tests, follows, period_order, period_tests, process_names, mutex_names, name_tests, process_again, mutex_again, again_tests, process_level, mutex_ceiling, level_tests, budget_room, budget_tests, mutex_users, user_tests, slowest_level, slowest_tests, all_tests}
use Rattle.dk_config.specs.Tests.{Test, each_row, outside}
use Rattle.dk_config.specs.declared.rows.LevelRow.{LevelRow}
use Rattle.dk_config.specs.declared.rows.ProcessRow.{ProcessRow}
use Rattle.dk_config_report.specs.declared.allowed.Allowed.TheVariants as allowed
use Rattle.dk_config_report.specs.Allowed.{allows, IsRightOf, TellsBounds}

-- what holds of the tests of two lists, and of those of each row
both : (P : Test → Type 0) (ts us : List Test) → AllByRecursion P ts → AllByRecursion P us → AllByRecursion P (ts ++ us)
both P [] us h k = k
both P (t ∷ ts) us h k = (h.0, both P ts us h.1 k)

rows_from : {R : Type 0} (P : Test → Type 0) (tests : ℕ → R → List Test) (i : ℕ) (rows : List R) → ((k : ℕ) (row : R) → slice_get rows k ≡ Some row → AllByRecursion P (tests (i + k) row))
    → AllByRecursion P (each_row tests i rows)
rows_from P tests i [] each = tt
rows_from P tests i (row ∷ rows) each =
    both P (tests i row) (each_row tests (suc i) rows) (subst (λ n. AllByRecursion P (tests n row)) (omega arith) (each 0 row refl))
    (rows_from P tests (suc i) rows (λ k r is. subst (λ n. AllByRecursion P (tests n r)) (omega arith) (each (suc k) r is)))

each_of : {R : Type 0} (P : Test → Type 0) (tests : ℕ → R → List Test) (rows : List R) → ((k : ℕ) (row : R) → slice_get rows k ≡ Some row → AllByRecursion P (tests k row))
    → AllByRecursion P (each_row tests 0 rows)
each_of P tests rows each = rows_from P tests 0 rows (λ k row is. subst (λ n. AllByRecursion P (tests n row)) (omega arith) (each k row is))

same_value : {A : Type 0} (x y : A) → Some x ≡ Some y → x ≡ y
same_value x y h = cc

-- the number that a row has
row_number : {R : Type 0} (f : R → ℕ) (o : Option R) (row : R) (n : ℕ) → o ≡ Some row → option_map f o ≡ Some n → f row ≡ n
row_number f o row n is has = same_value (f row) n (sym (ap (option_map f) is) ∙ has)

out_of_range : (low high x n : ℕ) → outside low high x ≡ true → x ≡ n → (nat_le low n && nat_le n high) ≡ false
out_of_range low high x n out same = grind (arith, nat_tests)

not_below : (levels x n : ℕ) → nat_le levels x ≡ true → x ≡ n → nat_lt n levels ≡ false
not_below levels x n past same = grind (arith, nat_tests)

not_enough : (least x n : ℕ) → nat_lt x least ≡ true → x ≡ n → nat_le least n ≡ false
not_enough least x n short same = grind (arith, nat_tests)

was_false : (b : Bool) → not b ≡ true → b ≡ false
was_false false h = refl
was_false true h = absurd (cc)

no_multiple : (b : Bool) (o : Option LevelRow) (l : LevelRow) (n : ℕ) → (b && option_map_or (λ before. not (follows before l)) o false) ≡ true → l.period ≡ n
    → allows (allowed.Multiples (option_map_or (λ row. row.period) o 0)) n ≡ false
no_multiple false o l n wrong same = absurd (cc)
no_multiple true None l n wrong same = absurd (cc)
no_multiple true (Some before) l n wrong same = ap (λ m. (m % before.period == 0) && nat_le (2 * before.period) m) (sym same) ∙ was_false (follows before l) wrong

not_slowest : (one : Bool) (levels level x n : ℕ) → ((nat_lt x level || nat_le levels x) || (one && not (x + 1 == levels))) ≡ true → x ≡ n
    → allows (cond (one && nat_lt level levels) (allowed.Last levels) (allowed.Levels level levels)) n ≡ false
not_slowest false levels level x n wrong same = grind (arith, nat_tests)
not_slowest true levels level x n wrong same = go (nat_lt level levels) refl
  where
    go : (t : Bool) → nat_lt level levels ≡ t → allows (cond t (allowed.Last levels) (allowed.Levels level levels)) n ≡ false
    go true there = grind (arith, nat_tests)
    go false past = grind (arith, nat_tests)

module _ (c : Configuration) where
  joined : (ts us : List Test) → AllByRecursion (IsRightOf c) ts → AllByRecursion (IsRightOf c) us → AllByRecursion (IsRightOf c) (ts ++ us)
  joined ts us h k = both (IsRightOf c) ts us h k

  versions : AllByRecursion (IsRightOf c) (version_tests c.version)
  unfolding version_tests
  versions = (λ out n at. out_of_range 1 2 c.version n out (same_value c.version n at), tt)

  counts : AllByRecursion (IsRightOf c) (count_tests c.version (length c.levels) (length c.processes) (length c.mutexes))
  unfolding count_tests
  counts = (
    λ out n at. out_of_range 1 (cond (c.version == 2) MAX_LEVELS MAX_LEVELS_1) (length c.levels) n out (same_value (length c.levels) n at),
    (
      λ out n at. out_of_range 1 MAX_PROCESSES (length c.processes) n out (same_value (length c.processes) n at),
      (λ out n at. out_of_range 0 MAX_MUTEXES (length c.mutexes) n out (same_value (length c.mutexes) n at), tt),
    ),
  )

  costs : AllByRecursion (IsRightOf c) (cost_ranges c.costs)
  costs = (
    λ out n at. out_of_range 0 MAX_COST c.costs.switch n out (same_value c.costs.switch n at),
    (λ out n at. out_of_range 1 MAX_COST c.costs.call n out (same_value c.costs.call n at), tt),
  )

  of_level : (i : ℕ) (l : LevelRow) → slice_get c.levels i ≡ Some l → AllByRecursion (IsRightOf c) (level_ranges i l)
  of_level i l is = (
    λ out n at. out_of_range 1 MAX_SPAN l.period n out (row_number (λ row. row.period) (slice_get c.levels i) l n is at),
    (λ out n at. out_of_range 0 MAX_SPAN l.release n out (row_number (λ row. row.release) (slice_get c.levels i) l n is at), tt),
  )

  of_process : (i : ℕ) (p : ProcessRow) → slice_get c.processes i ≡ Some p → AllByRecursion (IsRightOf c) (process_ranges i p)
  of_process i p is = (
    λ out n at. out_of_range 1 MAX_SPAN p.budget n out (row_number (λ row. row.budget) (slice_get c.processes i) p n is at),
    (
      λ out n at. out_of_range 0 MAX_MEMORY p.memory n out (row_number (λ row. row.memory) (slice_get c.processes i) p n is at),
      (λ out n at. out_of_range 0 MAX_CHILDREN p.threads n out (row_number (λ row. row.threads) (slice_get c.processes i) p n is at), tt),
    ),
  )

  of_mutex : (i : ℕ) (m : Mutex) → slice_get c.mutexes i ≡ Some m → AllByRecursion (IsRightOf c) (mutex_ranges i m)
  of_mutex i m is = (λ out n at. out_of_range 1 MAX_SPAN m.hold n out (row_number (λ row. row.hold) (slice_get c.mutexes i) m n is at), tt)

  ranges : AllByRecursion (IsRightOf c) (range_tests c.costs c.levels c.processes c.mutexes)
  unfolding range_tests
  ranges =
      joined (cost_ranges c.costs) (each_row level_ranges 0 c.levels ++ (each_row process_ranges 0 c.processes ++ each_row mutex_ranges 0 c.mutexes)) costs
      (joined (each_row level_ranges 0 c.levels) (each_row process_ranges 0 c.processes ++ each_row mutex_ranges 0 c.mutexes) (each_of (IsRightOf c) level_ranges c.levels of_level)
      (joined (each_row process_ranges 0 c.processes) (each_row mutex_ranges 0 c.mutexes) (each_of (IsRightOf c) process_ranges c.processes of_process) (each_of (IsRightOf c) mutex_ranges c.mutexes of_mutex)))

  of_period : (i : ℕ) (l : LevelRow) → slice_get c.levels i ≡ Some l → AllByRecursion (IsRightOf c) (period_order c.levels i l)
  of_period i l is =
      (λ wrong n at. no_multiple (nat_lt 0 i) (slice_get c.levels (i - 1)) l n wrong (row_number (λ row. row.period) (slice_get c.levels i) l n is at), tt)

  periods : AllByRecursion (IsRightOf c) (period_tests c.levels)
  unfolding period_tests
  periods = each_of (IsRightOf c) (period_order c.levels) c.levels of_period

  no_number : {P : Type 0} (n : ℕ) → None ≡ Some n → P
  no_number n h = absurd (cc)

  names : AllByRecursion (IsRightOf c) (name_tests c.processes c.mutexes)
  unfolding name_tests
  names =
      joined (each_row process_names 0 c.processes) (each_row mutex_names 0 c.mutexes) (each_of (IsRightOf c) process_names c.processes (λ i p is. (λ wrong n at. no_number n at, (λ wrong n at. no_number n at, tt))))
      (each_of (IsRightOf c) mutex_names c.mutexes (λ i m is. (λ wrong n at. no_number n at, tt)))

  agains : AllByRecursion (IsRightOf c) (again_tests c.processes c.mutexes)
  unfolding again_tests
  agains =
      joined (each_row (process_again c.processes) 0 c.processes) (each_row (mutex_again c.mutexes) 0 c.mutexes) (each_of (IsRightOf c) (process_again c.processes) c.processes (λ i p is. (λ wrong n at. no_number n at, tt)))
      (each_of (IsRightOf c) (mutex_again c.mutexes) c.mutexes (λ i m is. (λ wrong n at. no_number n at, tt)))

  levels : AllByRecursion (IsRightOf c) (level_tests (length c.levels) c.processes c.mutexes)
  unfolding level_tests
  levels =
      joined (each_row (process_level (length c.levels)) 0 c.processes) (each_row (mutex_ceiling (length c.levels)) 0 c.mutexes)
      (each_of (IsRightOf c) (process_level (length c.levels)) c.processes
      (λ i p is. (λ past n at. not_below (length c.levels) p.level n past (row_number (λ row. row.level) (slice_get c.processes i) p n is at), tt)))
      (each_of (IsRightOf c) (mutex_ceiling (length c.levels)) c.mutexes
      (λ i m is. (λ past n at. not_below (length c.levels) m.ceiling n past (row_number (λ row. row.ceiling) (slice_get c.mutexes i) m n is at), tt)))

  budgets : AllByRecursion (IsRightOf c) (budget_tests c.costs.switch c.processes)
  unfolding budget_tests
  budgets =
      each_of (IsRightOf c) (budget_room c.costs.switch) c.processes
      (λ i p is. (λ short n at. not_enough (2 * c.costs.switch + 1) p.budget n short (row_number (λ row. row.budget) (slice_get c.processes i) p n is at), tt))

  users : AllByRecursion (IsRightOf c) (user_tests c.processes c.mutexes)
  unfolding user_tests
  users = each_of (IsRightOf c) (mutex_users c.processes) c.mutexes (λ i m is. (λ wrong n at. no_number n at, tt))

  of_slowest : (i : ℕ) (p : ProcessRow) → slice_get c.processes i ≡ Some p → AllByRecursion (IsRightOf c) (slowest_level c.version (length c.levels) i p)
  of_slowest i p is = (
    λ wrong n at.
        ap (λ o. allows (cond ((c.version == 1) && nat_lt (option_map_or (λ row. row.level) o 0) (length c.levels)) (allowed.Last (length c.levels)) (allowed.Levels (option_map_or (λ row. row.level) o 0) (length c.levels))) n) is
        ∙ not_slowest (c.version == 1) (length c.levels) p.level p.max_level n wrong (row_number (λ row. row.max_level) (slice_get c.processes i) p n is at),
    tt,
  )

  slowests : AllByRecursion (IsRightOf c) (slowest_tests c.version (length c.levels) c.processes)
  unfolding slowest_tests
  slowests = each_of (IsRightOf c) (slowest_level c.version (length c.levels)) c.processes of_slowest

  -- the tests from each rule on
  abbrev from_12 : List Test
  from_12 = user_tests c.processes c.mutexes ++ slowest_tests c.version (length c.levels) c.processes

  abbrev from_11 : List Test
  from_11 = budget_tests c.costs.switch c.processes ++ from_12

  abbrev from_10 : List Test
  from_10 = level_tests (length c.levels) c.processes c.mutexes ++ from_11

  abbrev from_9 : List Test
  from_9 = again_tests c.processes c.mutexes ++ from_10

  abbrev from_8 : List Test
  from_8 = name_tests c.processes c.mutexes ++ from_9

  abbrev from_7 : List Test
  from_7 = period_tests c.levels ++ from_8

  abbrev from_6 : List Test
  from_6 = range_tests c.costs c.levels c.processes c.mutexes ++ from_7

  abbrev from_5 : List Test
  from_5 = count_tests c.version (length c.levels) (length c.processes) (length c.mutexes) ++ from_6

  all_right : AllByRecursion (IsRightOf c) (version_tests c.version ++ from_5)
  all_right =
      let at_12 = joined (user_tests c.processes c.mutexes) (slowest_tests c.version (length c.levels) c.processes) users slowests in
      let at_11 = joined (budget_tests c.costs.switch c.processes) from_12 budgets at_12 in
      let at_10 = joined (level_tests (length c.levels) c.processes c.mutexes) from_11 levels at_11 in
      let at_9 = joined (again_tests c.processes c.mutexes) from_10 agains at_10 in
      let at_8 = joined (name_tests c.processes c.mutexes) from_9 names at_9 in
      let at_7 = joined (period_tests c.levels) from_8 periods at_8 in
      let at_6 = joined (range_tests c.costs c.levels c.processes c.mutexes) from_7 ranges at_7 in
      let at_5 = joined (count_tests c.version (length c.levels) (length c.processes) (length c.mutexes)) from_6 counts at_6 in
      joined (version_tests c.version) from_5 versions at_5

pub tells_bounds : (c : Configuration) → TellsBounds c
unfolding all_tests
tells_bounds c = all_right c
