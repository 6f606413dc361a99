-- A configuration that breaks no rule is a checked one: it keeps to the limits, and its rows fit together.
use Rattle.std.proofs.Common.{◌≡◌, ◌<◌, ◌≤◌, ◌+◌, ◌*◌, ◌%◌, ◌-◌, inl, inr, ℕ, zero, suc, Bool, true, false, ◌||◌, eqb, ltb, leb, List, [], ◌∷◌, ◌++◌, length, arith, refl, sym, subst, take, ap}
use Rattle.std.specs.Prelude.{Option, Some, None, IfNone, slice_get, find}
use Rattle.std.specs.List.{list_all, list_any}
use Rattle.std.specs.Option.{option_map_or}
use Rattle.std.specs.Str.{bytes_eq}
use Rattle.std.specs.Int.{◌∣◌}
use Rattle.std.proofs.lemmas.Bool.{cases_Bool, or_parts, not-false, and_parts, eqb-true, leb-true, ltb-false}
use Rattle.std.proofs.lemmas.Bool.Decides.{nat_tests}
use Rattle.std.proofs.lemmas.Slice.Eq.{bytes_eq-Decides}
use Rattle.std.proofs.lemmas.Nat.Gcd.{dvd_trans, dvd_refl, dvd_of_mod-eq-zero}
use Rattle.std.proofs.lemmas.Option.{slice_get_within}
use Rattle.dk_config.specs.declared.fault.ConfigFault.{ConfigFault}
use Rattle.dk_config.specs.declared.rows.LevelRow.{LevelRow}
use Rattle.dk_config.specs.declared.rows.ProcessRow.{ProcessRow}
use Rattle.dk_config.specs.declared.TheConstants.{MAX_CHILDREN, MAX_COST, MAX_LEVELS, MAX_MEMORY, MAX_MUTEXES, MAX_PROCESSES, MAX_SPAN}
use Rattle.dk_config.specs.Configuration.{Configuration}
use Rattle.dk_config.specs.Mutex.{Mutex}
use Rattle.dk_config.specs.Tests.{Test, first_broken, each_row}
use Rattle.dk_config.specs.Rules.{all_tests, version_tests, count_tests, range_tests, period_tests, name_tests, again_tests, level_tests, budget_tests, user_tests, slowest_tests, cost_ranges, level_ranges, process_ranges, mutex_ranges, period_order, follows, process_names, mutex_names, process_again, mutex_again, process_level, mutex_ceiling, budget_room, mutex_users, slowest_level, is_name, is_wrong_user}
use Rattle.dk_config.specs.Windows.{period, main_level, max_level, ceiling, longest_hold, process_name}
use Rattle.dk_config.specs.Certification.{uses, is_user}
use Rattle.dk_config.specs.Checked.{BreaksNoRule, IsChecked, IsWithinLimits}
use Rattle.dk_config.proofs.Passing.{parts_pass, row_passes, row_at, within}

-- The lists of tests of a configuration that breaks no rule, each of which passes.
record Passed (c : Configuration) : Type 0 where
  counts : first_broken (count_tests c.version (length c.levels) (length c.processes) (length c.mutexes)) ≡ None
  costs : first_broken (cost_ranges c.costs) ≡ None
  level_rows : first_broken (each_row level_ranges 0 c.levels) ≡ None
  process_rows : first_broken (each_row process_ranges 0 c.processes) ≡ None
  mutex_rows : first_broken (each_row mutex_ranges 0 c.mutexes) ≡ None
  periods : first_broken (each_row (period_order c.levels) 0 c.levels) ≡ None
  process_name_rows : first_broken (each_row process_names 0 c.processes) ≡ None
  process_again_rows : first_broken (each_row (process_again c.processes) 0 c.processes) ≡ None
  process_levels : first_broken (each_row (process_level (length c.levels)) 0 c.processes) ≡ None
  mutex_ceilings : first_broken (each_row (mutex_ceiling (length c.levels)) 0 c.mutexes) ≡ None
  budgets : first_broken (each_row (budget_room c.costs.switch) 0 c.processes) ≡ None
  users : first_broken (each_row (mutex_users c.processes) 0 c.mutexes) ≡ None
  slowest : first_broken (each_row (slowest_level c.version (length c.levels)) 0 c.processes) ≡ None

passed : (c : Configuration) → BreaksNoRule c → Passed c
unfolding all_tests range_tests period_tests name_tests again_tests level_tests budget_tests user_tests slowest_tests
passed c h =
    let at_5 = (parts_pass (version_tests c.version) _ h).1 in
    let both_5 = parts_pass (count_tests c.version (length c.levels) (length c.processes) (length c.mutexes)) _ at_5 in
    let both_6 = parts_pass (range_tests c.costs c.levels c.processes c.mutexes) _ both_5.1 in
    let ranges = parts_pass (cost_ranges c.costs) (each_row level_ranges 0 c.levels ++ (each_row process_ranges 0 c.processes ++ each_row mutex_ranges 0 c.mutexes)) both_6.0 in
    let rows = parts_pass (each_row level_ranges 0 c.levels) (each_row process_ranges 0 c.processes ++ each_row mutex_ranges 0 c.mutexes) ranges.1 in
    let last_rows = parts_pass (each_row process_ranges 0 c.processes) (each_row mutex_ranges 0 c.mutexes) rows.1 in
    let both_7 = parts_pass (period_tests c.levels) _ both_6.1 in
    let both_8 = parts_pass (name_tests c.processes c.mutexes) _ both_7.1 in
    let both_9 = parts_pass (again_tests c.processes c.mutexes) _ both_8.1 in
    let both_10 = parts_pass (level_tests (length c.levels) c.processes c.mutexes) _ both_9.1 in
    let both_11 = parts_pass (budget_tests c.costs.switch c.processes) _ both_10.1 in
    let both_12 = parts_pass (user_tests c.processes c.mutexes) (slowest_tests c.version (length c.levels) c.processes) both_11.1 in
    record {
      counts = both_5.0;
      costs = ranges.0;
      level_rows = rows.0;
      process_rows = last_rows.0;
      mutex_rows = last_rows.1;
      periods = both_7.0;
      process_name_rows = (parts_pass (each_row process_names 0 c.processes) (each_row mutex_names 0 c.mutexes) both_8.0).0;
      process_again_rows = (parts_pass (each_row (process_again c.processes) 0 c.processes) (each_row (mutex_again c.mutexes) 0 c.mutexes) both_9.0).0;
      process_levels = (parts_pass (each_row (process_level (length c.levels)) 0 c.processes) (each_row (mutex_ceiling (length c.levels)) 0 c.mutexes) both_10.0).0;
      mutex_ceilings = (parts_pass (each_row (process_level (length c.levels)) 0 c.processes) (each_row (mutex_ceiling (length c.levels)) 0 c.mutexes) both_10.0).1;
      budgets = both_11.0;
      users = both_12.0;
      slowest = both_12.1;
    }

record Counts (version levels processes mutexes : ℕ) : Type 0 where
  some_levels : 1 ≤ levels
  few_levels : levels ≤ MAX_LEVELS
  some_processes : 1 ≤ processes
  few_processes : processes ≤ MAX_PROCESSES
  few_mutexes : mutexes ≤ MAX_MUTEXES

counts : (version levels processes mutexes : ℕ) → first_broken (count_tests version levels processes mutexes) ≡ None → Counts version levels processes mutexes
unfolding count_tests
counts version levels processes mutexes h = record {
  some_levels = grind (arith, nat_tests);
  few_levels = grind (arith, nat_tests);
  some_processes = grind (arith, nat_tests);
  few_processes = grind (arith, nat_tests);
  few_mutexes = grind (arith, nat_tests);
}

-- what the tests of a row say
level_range : (i : ℕ) (l : LevelRow) → first_broken (level_ranges i l) ≡ None → (1 ≤ l.period) × (l.period ≤ MAX_SPAN) × (l.release ≤ MAX_SPAN)
level_range i l h = (grind (arith, nat_tests), grind (arith, nat_tests), grind (arith, nat_tests))

process_range : (i : ℕ) (p : ProcessRow) → first_broken (process_ranges i p) ≡ None
    → (p.budget ≤ MAX_SPAN) × (p.memory ≤ MAX_MEMORY) × (p.threads ≤ MAX_CHILDREN)
process_range i p h = (grind (arith, nat_tests), grind (arith, nat_tests), grind (arith, nat_tests))

mutex_range : (i : ℕ) (m : Mutex) → first_broken (mutex_ranges i m) ≡ None → (1 ≤ m.hold) × (m.hold ≤ MAX_SPAN)
mutex_range i m h = (grind (arith, nat_tests), grind (arith, nat_tests))

process_level_known : (levels i : ℕ) (p : ProcessRow) → first_broken (process_level levels i p) ≡ None → p.level < levels
process_level_known levels i p h = grind (arith, nat_tests)

ceiling_known : (levels i : ℕ) (m : Mutex) → first_broken (mutex_ceiling levels i m) ≡ None → m.ceiling < levels
ceiling_known levels i m h = grind (arith, nat_tests)

budget_enough : (switch i : ℕ) (p : ProcessRow) → first_broken (budget_room switch i p) ≡ None → 2 * switch + 1 ≤ p.budget
budget_enough switch i p h = grind (arith, nat_tests)

slowest_known : (version levels i : ℕ) (p : ProcessRow) → first_broken (slowest_level version levels i p) ≡ None → (p.level ≤ p.max_level) × (p.max_level < levels)
slowest_known version levels i p h = (grind (arith, nat_tests), grind (arith, nat_tests))

name_kept : (i : ℕ) (p : ProcessRow) → first_broken (process_names i p) ≡ None → is_name p.name ≡ true
name_kept i p h = go (is_name p.name) refl
  where
    go : (b : Bool) → is_name p.name ≡ b → is_name p.name ≡ true
    go true is = is
    go false is = let broken = rw is at h in absurd (cc)

-- a number of a row that is there
of-row : {R : Type 0} (f : R → ℕ) (rows : List R) (k : ℕ) (row : R) → slice_get rows k ≡ Some row → option_map_or f (slice_get rows k) 0 ≡ f row
of-row f rows k row is = ap (λ o. option_map_or f o 0) is

-- a test that passes is false
test_false : (b : Bool) (t : Test) (ts : List Test) → t.1 ≡ b → first_broken (t ∷ ts) ≡ None → b ≡ false
test_false false t ts same h = refl
test_false true (f, true) ts same h = absurd (cc)
test_false true (f, false) ts same h = absurd (cc)

-- each period after the first follows the one before
period_follows : (c : Configuration) → Passed c → (i : ℕ) (before l : LevelRow) → slice_get c.levels i ≡ Some before → slice_get c.levels (suc i) ≡ Some l
    → follows before l ≡ true
period_follows c p i before l at next =
    let passes = row_passes (period_order c.levels) 0 c.levels (suc i) l p.periods next in
    let place : 0 + suc i - 1 ≡ i = omega arith in
    let later : ltb 0 (0 + suc i) ≡ true = grind (arith, nat_tests) in
    let broken = test_false _ _ [] refl passes in
    let at_place = rw (later, place, at) at broken in
    not-false (follows before l) at_place

-- a test that no item of a front of the list passes fails at each of them
none-before : {X : Type 0} (test : X → Bool) (xs : List X) (n j : ℕ) (x : X) → list_any test (take n xs) ≡ false → j < n → slice_get xs j ≡ Some x → test x ≡ false
none-before test xs zero j x none below at = absurd (omega arith)
none-before test [] (suc n) j x none below at = absurd (cc)
none-before test (y ∷ xs) (suc n) zero x none below at =
    let same : y ≡ x = cc in
    subst (λ z. test z ≡ false) same (or_parts (test y) (list_any test (take n xs)) none).0
none-before test (y ∷ xs) (suc n) (suc j) x none below at =
    none-before test xs n j x (or_parts (test y) (list_any test (take n xs)) none).1 (omega arith) at

-- where an item passes and none before it does, it is the one that is found
find-first : {X : Type 0} (test : X → Bool) (xs : List X) (k : ℕ) (x : X) → slice_get xs k ≡ Some x → test x ≡ true
    → ((j : ℕ) (y : X) → j < k → slice_get xs j ≡ Some y → test y ≡ false) → find test xs ≡ Some x
find-first test [] k x at passes none = absurd (cc)
find-first test (y ∷ xs) zero x at passes none =
    let same : y ≡ x = cc in
    let here : test y ≡ true = subst (λ z. test z ≡ true) (sym same) passes in
    rw here at
find-first test (y ∷ xs) (suc k) x at passes none =
    let here : test y ≡ false = none zero y (omega arith) refl in
    rw here (find-first test xs k x at passes (λ j z below is. none (suc j) z (omega arith) is))

-- no two rows have one name
names_differ : (c : Configuration) → Passed c → (p q : ℕ) (row other : ProcessRow) → p < q
    → slice_get c.processes p ≡ Some row → slice_get c.processes q ≡ Some other → bytes_eq row.name other.name ≡ false
names_differ c passes p q row other before at later =
    let own = row_passes (process_again c.processes) 0 c.processes q other passes.process_again_rows later in
    none-before (λ r. bytes_eq r.name other.name) c.processes (0 + q) p row (test_false _ _ [] refl own) (omega arith) at

-- a name among users of whom none is wrong isn't wrong
user-right : (wrong : List ℕ → Bool) (name : List ℕ) (users : List (List ℕ)) → list_any wrong users ≡ false → list_any (bytes_eq name) users ≡ true → wrong name ≡ false
user-right wrong name [] none some = absurd (cc)
user-right wrong name (u ∷ users) none some =
    let parts = or_parts (wrong u) (list_any wrong users) none in
    elim (cases_Bool (bytes_eq name u)) [
      | inl same ↦ subst (λ n. wrong n ≡ false) (sym ((bytes_eq-Decides name u).0 same)) parts.0
      | inr other ↦ user-right wrong name users parts.1 (rw other at some)
    ]

-- the process of a name is the row that has it
found : (c : Configuration) → Passed c → (p : ℕ) (row : ProcessRow) → slice_get c.processes p ≡ Some row → find (λ q. bytes_eq q.name row.name) c.processes ≡ Some row
found c passes p row at =
    find-first (λ q. bytes_eq q.name row.name) c.processes p row at ((bytes_eq-Decides row.name row.name).1 refl)
    (λ j other below is. names_differ c passes j p other row below is at)

-- a user's level isn't faster than the ceiling
user_ceiling : (c : Configuration) → Passed c → (m p : ℕ) (mutex : Mutex) (row : ProcessRow) → slice_get c.mutexes m ≡ Some mutex → slice_get c.processes p ≡ Some row
    → uses mutex row ≡ true → mutex.ceiling ≤ row.level
user_ceiling c passes m p mutex row at is used =
    let own = row_passes (mutex_users c.processes) 0 c.mutexes m mutex passes.users at in
    let broken = test_false _ _ [] refl own in
    let first = or_parts (eqb (length mutex.users) 0 || list_any (is_wrong_user c.processes mutex.ceiling) mutex.users) _ broken in
    let none = (or_parts (eqb (length mutex.users) 0) (list_any (is_wrong_user c.processes mutex.ceiling) mutex.users) first.0).1 in
    let right = user-right (is_wrong_user c.processes mutex.ceiling) row.name mutex.users none used in
    let low : ltb row.level mutex.ceiling ≡ false = rw (found c passes p row is) at right in
    ltb-false row.level mutex.ceiling low

-- a user's mutex and process are rows, and the mutex has the process's name
pub record IsUse (c : Configuration) (m p : ℕ) : Type 0 where
  pub mutex : Mutex
  pub row : ProcessRow
  pub mutex_at : slice_get c.mutexes m ≡ Some mutex
  pub row_at : slice_get c.processes p ≡ Some row
  pub used : uses mutex row ≡ true

pub use_of : (c : Configuration) (m p : ℕ) → is_user c m p ≡ true → IsUse c m p
use_of c m p h = go (slice_get c.mutexes m) (slice_get c.processes p) refl refl h
  where
    go : (o : Option Mutex) (q : Option ProcessRow) → slice_get c.mutexes m ≡ o → slice_get c.processes p ≡ q
        → option_map_or (λ mutex. option_map_or (uses mutex) q false) o false ≡ true → IsUse c m p
    go (Some mutex) (Some row) a b h = record { mutex = mutex; row = row; mutex_at = a; row_at = b; used = h }
    go (Some mutex) None a b h = absurd (cc)
    go None q a b h = absurd (cc)

-- a mutex that has a user is a row
pub user-mutex : (c : Configuration) (m p : ℕ) → is_user c m p ≡ true → m < length c.mutexes
user-mutex c m p uses = let u = use_of c m p uses in slice_get_within c.mutexes m u.mutex u.mutex_at

-- the periods divide one another
divides-next : (c : Configuration) → Passed c → (i : ℕ) → suc i < length c.levels → (period c i ∣ period c (suc i)) × (2 * period c i ≤ period c (suc i))
divides-next c passes i below =
    let (before, at) = row_at c.levels i (omega arith) in
    let (l, next) = row_at c.levels (suc i) below in
    let order = period_follows c passes i before l at next in
    let whole = and_parts (eqb (l.period % before.period) 0) (leb (2 * before.period) l.period) order in
    let a = of-row (λ r. r.period) c.levels i before at in
    let b = of-row (λ r. r.period) c.levels (suc i) l next in
    let none : l.period % before.period ≡ 0 = eqb-true (l.period % before.period) 0 whole.0 in
    let twice : 2 * before.period ≤ l.period = leb-true (2 * before.period) l.period whole.1 in (
      subst (λ x. x ∣ period c (suc i)) (sym a) (subst (λ y. before.period ∣ y) (sym b) (dvd_of_mod-eq-zero before.period none)),
      subst (λ x. 2 * x ≤ period c (suc i)) (sym a) (subst (λ y. 2 * before.period ≤ y) (sym b) twice),
    )

divides-by : (c : Configuration) → Passed c → (i k : ℕ) → i + k < length c.levels → period c i ∣ period c (i + k)
divides-by c passes i zero below = let same : i ≡ i + 0 = omega arith in subst (λ n. period c i ∣ period c n) same (dvd_refl (period c i))
divides-by c passes i (suc k) below =
    let before = divides-by c passes i k (omega arith) in
    let next = (divides-next c passes (i + k) (omega arith)).0 in
    let same : suc (i + k) ≡ i + suc k = omega arith in
    subst (λ n. period c i ∣ period c n) same (dvd_trans (period c i) before next)

module _ (c : Configuration) (passes : Passed c) where
  -- a fact on the number of each row that is there
  level-fact : (P : ℕ → Type 0) (f : LevelRow → ℕ) → ((k : ℕ) (row : LevelRow) → slice_get c.levels k ≡ Some row → P (f row))
      → (i : ℕ) → i < length c.levels → P (option_map_or f (slice_get c.levels i) 0)
  level-fact P f each i below = let (row, at) = row_at c.levels i below in subst P (sym (of-row f c.levels i row at)) (each i row at)

  process-fact : (P : ℕ → Type 0) (f : ProcessRow → ℕ) → ((k : ℕ) (row : ProcessRow) → slice_get c.processes k ≡ Some row → P (f row))
      → (p : ℕ) → p < length c.processes → P (option_map_or f (slice_get c.processes p) 0)
  process-fact P f each p below = let (row, at) = row_at c.processes p below in subst P (sym (of-row f c.processes p row at)) (each p row at)

  slowest-fact : (p : ℕ) → p < length c.processes → (main_level c p ≤ max_level c p) × (max_level c p < length c.levels)
  slowest-fact p below =
      let (row, at) = row_at c.processes p below in
      let known = slowest_known c.version (length c.levels) (0 + p) row (row_passes (slowest_level c.version (length c.levels)) 0 c.processes p row passes.slowest at) in
      let a : main_level c p ≡ row.level = of-row (λ r. r.level) c.processes p row at in
      let b : max_level c p ≡ row.max_level = of-row (λ r. r.max_level) c.processes p row at in
      (omega (arith, known.0), omega (arith, known.1))

-- how the rows of a configuration that breaks no rule fit together
pub checked : (c : Configuration) → BreaksNoRule c → IsChecked c
checked c h =
    let passes = passed c h in
    record {
      positive = level-fact c passes (λ n. 0 < n) (λ row. row.period)
          (λ k row at. (level_range (0 + k) row (row_passes level_ranges 0 c.levels k row passes.level_rows at)).0);
      divides = λ i j le below.
          (let same : i + (j - i) ≡ j = omega arith in
          subst (λ n. period c i ∣ period c n) same (divides-by c passes i (j - i) (omega arith)));
      levels = process-fact c passes (λ n. n < length c.levels) (λ row. row.level)
          (λ k row at. process_level_known (length c.levels) (0 + k) row (row_passes (process_level (length c.levels)) 0 c.processes k row passes.process_levels at));
      slowest = λ p below. (slowest-fact c passes p below).0;
      reaches = λ p below. (slowest-fact c passes p below).1;
      budgets = process-fact c passes (λ n. 2 * c.costs.switch + 1 ≤ n) (λ row. row.budget)
          (λ k row at. budget_enough c.costs.switch (0 + k) row (row_passes (budget_room c.costs.switch) 0 c.processes k row passes.budgets at));
      ceilings = λ m p is.
          (let u = use_of c m p is in
          let low = user_ceiling c passes m p u.mutex u.row u.mutex_at u.row_at u.used in
          let a : ceiling c m ≡ u.mutex.ceiling = of-row (λ r. r.ceiling) c.mutexes m u.mutex u.mutex_at in
          let b : main_level c p ≡ u.row.level = of-row (λ r. r.level) c.processes p u.row u.row_at in
          omega arith);
      holds = λ m p is.
          (let u = use_of c m p is in
          let high = (mutex_range (0 + m) u.mutex (row_passes mutex_ranges 0 c.mutexes m u.mutex passes.mutex_rows u.mutex_at)).0 in
          let a : longest_hold c m ≡ u.mutex.hold = of-row (λ r. r.hold) c.mutexes m u.mutex u.mutex_at in
          omega arith);
    }

-- each item of a list passes a test that the row at each place passes
all-rows : {X : Type 0} (test : X → Bool) (xs : List X) → ((k : ℕ) (x : X) → slice_get xs k ≡ Some x → test x ≡ true) → list_all test xs ≡ true
all-rows test [] each = refl
all-rows test (x ∷ xs) each = rw (each zero x refl) (all-rows test xs (λ k y at. each (suc k) y at))

-- the limits of a configuration that breaks no rule
pub within_limits : (c : Configuration) → BreaksNoRule c → IsWithinLimits c
within_limits c h =
    let passes = passed c h in
    let numbers = counts c.version (length c.levels) (length c.processes) (length c.mutexes) passes.counts in
    let costs = cost_range c.costs.switch c.costs.call passes.costs in
    let level = λ (k : ℕ) (row : LevelRow) (at : slice_get c.levels k ≡ Some row). level_range (0 + k) row (row_passes level_ranges 0 c.levels k row passes.level_rows at) in
    let process = λ (k : ℕ) (row : ProcessRow) (at : slice_get c.processes k ≡ Some row). process_range (0 + k) row (row_passes process_ranges 0 c.processes k row passes.process_rows at) in
    record {
      some_levels = numbers.some_levels;
      few_levels = numbers.few_levels;
      some_processes = numbers.some_processes;
      few_processes = numbers.few_processes;
      few_mutexes = numbers.few_mutexes;
      switch = costs.0;
      some_call = costs.1;
      call = costs.2;
      periods = within (λ row. row.period) c.levels MAX_SPAN (λ k row at. (level k row at).1);
      releases = within (λ row. row.release) c.levels MAX_SPAN (λ k row at. (level k row at).2);
      doubles = λ i below. (divides-next c passes i below).1;
      budgets = within (λ row. row.budget) c.processes MAX_SPAN (λ k row at. (process k row at).0);
      memories = within (λ row. row.memory) c.processes MAX_MEMORY (λ k row at. (process k row at).1);
      threads = within (λ row. row.threads) c.processes MAX_CHILDREN (λ k row at. (process k row at).2);
      ceilings = λ m below.
          (let (row, at) = row_at c.mutexes m below in
          let known = ceiling_known (length c.levels) (0 + m) row (row_passes (mutex_ceiling (length c.levels)) 0 c.mutexes m row passes.mutex_ceilings at) in
          let a : ceiling c m ≡ row.ceiling = of-row (λ r. r.ceiling) c.mutexes m row at in
          omega arith);
      holds = within (λ row. row.hold) c.mutexes MAX_SPAN
          (λ k row at. (mutex_range (0 + k) row (row_passes mutex_ranges 0 c.mutexes k row passes.mutex_rows at)).1);
      names = all-rows (λ row. is_name row.name) c.processes
          (λ k row at. name_kept (0 + k) row (row_passes process_names 0 c.processes k row passes.process_name_rows at));
      distinct = λ p q before below.
          (let (row, at) = row_at c.processes p (omega arith) in
          let (other, later) = row_at c.processes q below in
          let a : process_name c p ≡ row.name = ap (λ o. option_map_or (λ r. r.name) o []) at in
          let b : process_name c q ≡ other.name = ap (λ o. option_map_or (λ r. r.name) o []) later in
          rw (a, b) (names_differ c passes p q row other before at later));
    }
  where
    cost_range : (switch call : ℕ) → first_broken (cost_ranges (record { switch = switch; call = call })) ≡ None → (switch ≤ MAX_COST) × (1 ≤ call) × (call ≤ MAX_COST)
    cost_range switch call h = (grind (arith, nat_tests), grind (arith, nat_tests), grind (arith, nat_tests))

-- what the answer that no rule is broken says
pub when-none : (answer : Option ConfigFault) (c : Configuration) → answer ≡ first_broken (all_tests c) → IfNone answer (IsChecked c) × IfNone answer (IsWithinLimits c)
when-none None c is = (checked c (sym is), within_limits c (sym is))
when-none (Some f) c is = (tt, tt)
