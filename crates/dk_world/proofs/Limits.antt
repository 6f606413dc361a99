-- What an accepted configuration's budgets are at most.
use Rattle.dk_world.proofs.Names.{ℕ, zero, suc, ◌≡◌, ◌∙◌, ◌+◌, ◌*◌, ◌/◌, ◌<◌, ◌≤◌, true, cond, eqb, List, ◌∷◌, length, refl, ap, arith, slice_get, sum_by, option_map_or, nat_tests, sum_by-cons, div_self, Configuration, IsChecked, IsAccepted, period, release, budget, main_level, budgets_at, level_demand, sum_from-term, ProcessRow}
use Rattle.std.proofs.Common.{[]}

abbrev level_in : List ProcessRow → ℕ → ℕ
level_in rows p = option_map_or (λ row. row.level) (slice_get rows p) 0

abbrev budget_in : List ProcessRow → ℕ → ℕ
budget_in rows p = option_map_or (λ row. row.budget) (slice_get rows p) 0

abbrev due : ℕ → ProcessRow → ℕ
due i row = cond (eqb row.level i) row.budget 0

-- the budgets of a level have that of each of its processes
budget_term : (rows : List ProcessRow) (p i : ℕ) → level_in rows p ≡ i → budget_in rows p ≤ sum_by (due i) rows
budget_term [] p i at = omega arith
budget_term (row ∷ rows) zero i at =
    let same : eqb row.level i ≡ true = grind (arith, nat_tests, at) in
    let whole = sum_by-cons (due i) row rows in
    let first : due i row ≡ row.budget = rw same refl in
    omega (arith, whole, first)
budget_term (row ∷ rows) (suc p) i at =
    let whole = sum_by-cons (due i) row rows in
    let rest = budget_term rows p i at in
    omega (arith, whole, rest)

-- a budget is at most the period of the level of its process
pub budget_period : (c : Configuration) (p : ℕ) → IsChecked c → IsAccepted c → p < length c.processes → budget c p ≤ period c (main_level c p)
budget_period c p checked accepted here =
    let j = main_level c p in
    let known = checked.levels p here in
    let positive = checked.positive j known in
    let one = div_self positive in
    let f = λ (i : ℕ). (release c i + budgets_at c i) * (period c j / period c i) in
    let own : f j ≡ release c j + budgets_at c j = ap (λ k. (release c j + budgets_at c j) * k) one ∙ omega arith in
    let term : f j ≤ level_demand c j = sum_from-term 0 (suc j) f j (omega arith) (omega arith) in
    let due_here : budget c p ≤ budgets_at c j = budget_term c.processes p j refl in
    let fits = accepted j known in
    omega (arith, own, term, due_here, fits)
