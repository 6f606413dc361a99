-- The table of a certified configuration is sound: a budget fits the window of its level.
use Rattle.dk_budget.proofs.Names.{◌≡◌, ◌<◌, ◌≤◌, ◌+◌, ℕ, zero, suc, Bool, false, List, [], ◌∷◌, length, map, get_or, ap, sym, subst, arith, refl, slice_get, ◌==◌, if◌then◌else◌, range_with_len, option_map_or, eq-eqb, length-map, get_or-le-sum_by, All-map, All-from_get_or, All-nil, length-map-range_with_len, get_or-range_with_len, length-range_with_len, div_self, MAX_SPAN, LevelRow, ProcessRow, Configuration, sum_from, period, main_level, budget, release, budgets_at, IsChecked, IsWithinLimits, IsAccepted, of_row, periods_of, book_of, lender_of, period_in, IsSound, IsSoundLender, ArePeriods, nat_tests}

-- the period that the table has of a level is the configuration's
pub period-same : (rows : List LevelRow) (i : ℕ)
    → period_in (map (λ (row : LevelRow). row.period) rows) i ≡ option_map_or (λ (row : LevelRow). row.period) (slice_get rows i) 0
period-same [] i = refl
period-same (row ∷ rows) zero = refl
period-same (row ∷ rows) (suc i) = period-same rows i

last-term : (f : ℕ → ℕ) (low n : ℕ) → f (low + n) ≤ sum_from low (suc n) f
last-term f low zero = grind (arith, nat_tests)
last-term f low (suc n) = grind (arith, nat_tests, last-term f (suc low) n)

counted : (level own budget : ℕ) → own ≡ level → (if own == level then budget else 0) ≡ budget
counted level own budget same = ap (λ (b : Bool). if b then budget else 0) (eq-eqb own level same)

-- a budget is among those of its level
budget-counted : (c : Configuration) (p : ℕ) (d : ProcessRow) → p < length c.processes → budget c p ≤ budgets_at c (main_level c p)
budget-counted c p d known =
    let row = get_or c.processes p d in
    let level : main_level c p ≡ row.level = of_row (λ (r : ProcessRow). r.level) c.processes p d known in
    let has : budget c p ≡ row.budget = of_row (λ (r : ProcessRow). r.budget) c.processes p d known in
    let among = get_or-le-sum_by (λ (r : ProcessRow). if r.level == main_level c p then r.budget else 0) c.processes p d known in
    let mine = counted (main_level c p) row.level row.budget (sym level) in
    omega (arith, has, among, mine)

-- a budget fits the window of its level
budget-fits : (c : Configuration) (p : ℕ) (d : ProcessRow) → IsChecked c → IsAccepted c → p < length c.processes → budget c p ≤ period c (main_level c p)
budget-fits c p d checked accepted known = grind (arith, nat_tests, div_self, last-term, budget-counted)

sound-lender : (c : Configuration) (p : ℕ) (d : ProcessRow) → IsChecked c → IsWithinLimits c → IsAccepted c → p < length c.processes
    → IsSoundLender (periods_of c) (lender_of c p)
sound-lender c p d checked limits accepted known = grind (arith, nat_tests, length-map, period-same, budget-fits, All-nil)

no_process : ProcessRow
no_process = record { name = []; program = []; level = 0; budget = 0; memory = 0; threads = 0; slack = false; max_level = 0 }

no_level : LevelRow
no_level = record { period = 0; release = 0 }

-- the periods of a certified configuration are those of a table
pub periods-sound : (c : Configuration) → IsChecked c → IsWithinLimits c → ArePeriods (periods_of c)
periods-sound c checked limits =
    let of_level : (k : ℕ) → k < length c.levels → period c k ≡ (get_or c.levels k no_level).period = λ k low. of_row (λ (r : LevelRow). r.period) c.levels k no_level low in
    record {
      few = omega (arith, length-map c.levels (λ (row : LevelRow). row.period), limits.few_levels);
      positive = All-map (λ q. 0 < q) (λ (row : LevelRow). row.period) c.levels
          (All-from_get_or (λ (row : LevelRow). 0 < row.period) c.levels no_level
          (λ k low. let at = of_level k low in omega (arith, at, checked.positive k low)));
      short = All-map (λ q. q ≤ MAX_SPAN) (λ (row : LevelRow). row.period) c.levels
          (All-from_get_or (λ (row : LevelRow). row.period ≤ MAX_SPAN) c.levels no_level
          (λ k low. let at = of_level k low in omega (arith, at, limits.periods k)));
    }

pub sound-at_start : (c : Configuration) → IsChecked c → IsWithinLimits c → IsAccepted c → IsSound (book_of c)
sound-at_start c checked limits accepted =
    record {
      switch = limits.switch;
      periods = periods-sound c checked limits;
      few = omega (arith, length-map-range_with_len (lender_of c) 0 (length c.processes), limits.few_processes);
      lenders = All-map (IsSoundLender (periods_of c)) (lender_of c) (range_with_len 0 (length c.processes))
          (All-from_get_or (λ p. IsSoundLender (periods_of c) (lender_of c p)) (range_with_len 0 (length c.processes)) 0
          (λ k low. subst (λ p. IsSoundLender (periods_of c) (lender_of c p)) (sym (at k (rw length-range_with_len at low)))
          (sound-lender c (0 + k) no_process checked limits accepted (omega (arith, length-range_with_len 0 (length c.processes), low)))));
    }
  where
    at : (k : ℕ) → k < length c.processes → get_or (range_with_len 0 (length c.processes)) k 0 ≡ 0 + k
    at k low = get_or-range_with_len 0 (length c.processes) k 0 low
