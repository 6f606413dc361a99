-- The rows of levels with another release in one of them, and the rules that they don't break.
use Rattle.dk_margins.proofs.Names.{◌≡◌, sym, ap, refl, subst, ℕ, zero, suc, ◌-◌, ◌<◌, ◌≤◌, ◌&&◌, List, [], ◌∷◌, ◌++◌, length, arith, None, slice_get, false, nat_lt, not, option_map_or, nat_tests, each_row-same, MAX_SPAN, LevelRow, Configuration, release, Test, first_broken, each_row, test_of, version_tests, count_tests, name_tests, again_tests, level_tests, budget_tests, user_tests, slowest_tests, cost_ranges, level_ranges, process_ranges, mutex_ranges, period_order, follows, BreaksNoRule, IsAccepted, within_limits, AtEach, rows_with_release, with_release, ReleaseFits}
use Rattle.dk_config.specs.declared.fault.Section.TheVariants as section
use Rattle.dk_config.specs.declared.fault.Field.TheVariants as field
use Rattle.dk_config.specs.Rules.{all_tests, range_tests, period_tests}
use Rattle.dk_margins.proofs.Keeping.{Keeps, keeps_both, keeps_same}

module _ (r : ℕ) where
  pub length-with : (rows : List LevelRow) (i : ℕ) → length (rows_with_release rows i r) ≡ length rows
  length-with [] i = refl
  length-with (row ∷ rows) zero = refl
  length-with (row ∷ rows) (suc i) = ap suc (length-with rows i)

  -- what doesn't look at the release
  pub get-with : {X : Type 0} (f : LevelRow → X) → ((row : LevelRow) → f (record row { release = r }) ≡ f row) → (d : X) (rows : List LevelRow) (i k : ℕ)
      → option_map_or f (slice_get (rows_with_release rows i r) k) d ≡ option_map_or f (slice_get rows k) d
  get-with f same d [] i k = refl
  get-with f same d (row ∷ rows) zero zero = same row
  get-with f same d (row ∷ rows) zero (suc k) = refl
  get-with f same d (row ∷ rows) (suc i) zero = refl
  get-with f same d (row ∷ rows) (suc i) (suc k) = get-with f same d rows i k

  -- the release itself
  pub own-release : (rows : List LevelRow) (i : ℕ) → i < length rows → option_map_or (λ row. row.release) (slice_get (rows_with_release rows i r) i) 0 ≡ r
  own-release [] i below = absurd (omega arith)
  own-release (row ∷ rows) zero below = refl
  own-release (row ∷ rows) (suc i) below = own-release rows i (omega arith)

  pub other-release : (rows : List LevelRow) (i k : ℕ) → (i ≡ k → ⊥) → option_map_or (λ row. row.release) (slice_get (rows_with_release rows i r) k) 0 ≡ option_map_or (λ row. row.release) (slice_get rows k) 0
  other-release [] i k apart = refl
  other-release (row ∷ rows) zero zero apart = absurd (apart refl)
  other-release (row ∷ rows) zero (suc k) apart = refl
  other-release (row ∷ rows) (suc i) zero apart = refl
  other-release (row ∷ rows) (suc i) (suc k) apart = other-release rows i k (λ same. apart (ap suc same))

  rows_keep : (tests : ℕ → LevelRow → List Test) → ((i : ℕ) (row : LevelRow) → Keeps (tests i row) (tests i (record row { release = r }))) → (i : ℕ) (rows : List LevelRow) (m : ℕ)
      → Keeps (each_row tests i rows) (each_row tests i (rows_with_release rows m r))
  rows_keep tests keeps i [] m = λ k. k
  rows_keep tests keeps i (row ∷ rows) zero =
      keeps_both (tests i row) (tests i (record row { release = r })) (each_row tests (suc i) rows) (each_row tests (suc i) rows) (keeps i row) (λ k. k)
  rows_keep tests keeps i (row ∷ rows) (suc m) =
      keeps_both (tests i row) (tests i row) (each_row tests (suc i) rows) (each_row tests (suc i) (rows_with_release rows m r)) (λ k. k) (rows_keep tests keeps (suc i) rows m)

-- with the release that it has, a row stays as it is
pub rows-same : (rows : List LevelRow) (i : ℕ) → rows_with_release rows i (option_map_or (λ row. row.release) (slice_get rows i) 0) ≡ rows
rows-same [] i = refl
rows-same (row ∷ rows) zero = refl
rows-same (row ∷ rows) (suc i) = ap (λ rs. row ∷ rs) (rows-same rows i)

range_kept : (r i : ℕ) (row : LevelRow) → r ≤ MAX_SPAN → Keeps (level_ranges i row) (level_ranges i (record row { release = r }))
range_kept r i row few k = grind (arith, nat_tests)

module _ (c : Configuration) (i r : ℕ) where
  abbrev rows : List LevelRow
  rows = rows_with_release c.levels i r

  order_same : (k : ℕ) (row : LevelRow) → period_order rows k row ≡ period_order c.levels k row
  order_same k row = ap (λ t. test_of 7 section.Level k field.Period (nat_lt 0 k && t) ∷ []) (get-with r (λ before. not (follows before row)) (λ before. refl) false c.levels i (k - 1))

  periods_kept : Keeps (period_tests c.levels) (period_tests rows)
  unfolding period_tests
  periods_kept k =
      subst (λ ts. first_broken ts ≡ None) (sym (each_row-same (period_order rows) (period_order c.levels) order_same 0 rows))
      (rows_keep r (period_order c.levels) (λ n row h. h) 0 c.levels i k)

  pub unbroken-with : BreaksNoRule c → r ≤ MAX_SPAN → BreaksNoRule (with_release c i r)
  unfolding all_tests range_tests
  unbroken-with k few =
      let ps = c.processes in
      let ms = c.mutexes in
      let n = length c.levels in
      let n' = length rows in
      let long = length-with r c.levels i in
      let counts : Keeps (count_tests c.version n (length ps) (length ms)) (count_tests c.version n' (length ps) (length ms)) =
      keeps_same (count_tests c.version n (length ps) (length ms)) (count_tests c.version n' (length ps) (length ms)) (ap (λ l. count_tests c.version l (length ps) (length ms)) (sym long)) in
      let rest = each_row process_ranges 0 ps ++ each_row mutex_ranges 0 ms in
      let ranges : Keeps (range_tests c.costs c.levels ps ms) (range_tests c.costs rows ps ms) =
      keeps_both (cost_ranges c.costs) (cost_ranges c.costs) (each_row level_ranges 0 c.levels ++ rest) (each_row level_ranges 0 rows ++ rest) (λ k. k)
      (keeps_both (each_row level_ranges 0 c.levels) (each_row level_ranges 0 rows) rest rest (rows_keep r level_ranges (λ k row. range_kept r k row few) 0 c.levels i) (λ k. k)) in
      let levels : Keeps (level_tests n ps ms) (level_tests n' ps ms) = keeps_same (level_tests n ps ms) (level_tests n' ps ms) (ap (λ l. level_tests l ps ms) (sym long)) in
      let slowest : Keeps (slowest_tests c.version n ps) (slowest_tests c.version n' ps) =
      keeps_same (slowest_tests c.version n ps) (slowest_tests c.version n' ps) (ap (λ l. slowest_tests c.version l ps) (sym long)) in
      keeps_both (version_tests c.version) (version_tests c.version) _ _ (λ k. k)
      (keeps_both (count_tests c.version n (length ps) (length ms)) (count_tests c.version n' (length ps) (length ms)) _ _ counts
      (keeps_both (range_tests c.costs c.levels ps ms) (range_tests c.costs rows ps ms) _ _ ranges
      (keeps_both (period_tests c.levels) (period_tests rows) _ _ periods_kept
      (keeps_both (name_tests ps ms) (name_tests ps ms) _ _ (λ k. k)
      (keeps_both (again_tests ps ms) (again_tests ps ms) _ _ (λ k. k)
      (keeps_both (level_tests n ps ms) (level_tests n' ps ms) _ _ levels
      (keeps_both (budget_tests c.costs.switch ps) (budget_tests c.costs.switch ps) _ _ (λ k. k)
      (keeps_both (user_tests ps ms) (user_tests ps ms) (slowest_tests c.version n ps) (slowest_tests c.version n' ps) (λ k. k) slowest)))))))) k

  -- a release that breaks no rule is in its range
  pub range_needed : i < length c.levels → BreaksNoRule (with_release c i r) → r ≤ MAX_SPAN
  range_needed inside k =
      let most = (within_limits (with_release c i r) k).releases i in
      let own : release (with_release c i r) i ≡ r = own-release r c.levels i inside in
      omega (arith, most, own)

  -- there are as many levels as before
  pub accepted-each : IsAccepted (with_release c i r) → AtEach (length c.levels) (ReleaseFits c i) r
  accepted-each accepted j below = accepted j (subst (λ n. j < n) (sym (length-with r c.levels i)) below)

  pub each-accepted : AtEach (length c.levels) (ReleaseFits c i) r → IsAccepted (with_release c i r)
  each-accepted all j below = all j (subst (λ n. j < n) (length-with r c.levels i) below)
