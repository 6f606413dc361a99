-- The budgets of a process with which one level fits its windows.
use Rattle.dk_plan.proofs.Names.{◌≡◌, ℕ, ◌+◌, ◌/◌, ◌<◌, ◌≤◌, length, arith, ◌↔◌, le-div, le_of_dvd, le-div_iff_mul-le, Configuration, period, main_level, IsChecked, LevelFits, needs_of_others, nat_tests}
use Rattle.dk_plan.proofs.Demands.{demand-before, demand-from, blocking-same}

-- a slower level's window is at least as long
pub windows_positive : (c : Configuration) (m j : ℕ) → IsChecked c → m ≤ j → j < length c.levels → 0 < period c j / period c m
windows_positive c m j checked h inside =
    let long = le_of_dvd (checked.positive j inside) (checked.divides m j h inside) in
    let one = le-div 1 (period c j) (period c m) (checked.positive m (omega (arith, h, inside))) (omega (arith, long)) in
    omega (arith, one)

module _ (c : Configuration) (p : ℕ) (inside : p < length c.processes) (j b : ℕ) where
  pub no_budget_fits : period c j < needs_of_others c p j → LevelFits c p j b → ⊥
  no_budget_fits short fits = grind (arith, nat_tests, blocking-same, demand-before, demand-from)

  module _ (room : ℕ) (left : room + needs_of_others c p j ≡ period c j) where
    pub any_budget_fits : j < main_level c p → LevelFits c p j b
    any_budget_fits before =
        let demand = demand-before c p inside b j before in
        let same = blocking-same c p inside b j in
        omega (arith, demand, same, left)

    pub budget_fits : (windows : ℕ) → windows ≡ period c j / period c (main_level c p) → 0 < windows → main_level c p ≤ j → LevelFits c p j b ↔ (b ≤ room / windows)
    budget_fits windows is positive from = grind (arith, nat_tests, demand-from, blocking-same, le-div_iff_mul-le)
