-- What the levels need with every budget grown.
use Rattle.std.proofs.Common.{◌≡◌, ap, refl, ℕ, zero, suc, ◌+◌, ◌*◌, ◌/◌, ◌≤◌, sum_by, arith}
use Rattle.std.specs.Prelude.{◌||◌, ◌&&◌, nat_lt, nat_le, map}
use Rattle.std.proofs.Math.Nat.{mul-le-mul, mul-le-mul_right}
use Rattle.std.proofs.lemmas.List.Elements.{filter_agree}
use Rattle.dk_certify.specs.Bounds.{most_budgets, most_work}
use Rattle.dk_config.specs.declared.TheConstants.{MAX_PROCESSES, MAX_SPAN}
use Rattle.dk_config.specs.Configuration.{Configuration}
use Rattle.dk_config.specs.Mutex.{Mutex}
use Rattle.dk_config.specs.Sums.{sum_from, greatest}
use Rattle.dk_config.specs.Windows.{period, release}
use Rattle.dk_config.specs.Certification.{budgets_at, level_demand, level_blocking, can_block, uses}
use Rattle.dk_config.specs.Checked.{IsAccepted, IsWithinLimits}
use Rattle.dk_config.proofs.Budgets.{budgets_bounded}
use Rattle.dk_plan.specs.Levels.{work_at}
use Rattle.dk_growth.specs.Growth.{grown, grown_at}
use Rattle.dk_growth.proofs.Rows.{list_any-grown, budgets-grown, budgets-more}

-- the work of a level that fits its range
pub bounded_work : (each windows : ℕ) → each ≤ (MAX_PROCESSES + 1) * MAX_SPAN → windows ≤ MAX_SPAN → each * windows ≤ most_work
bounded_work each windows few short = let product = mul-le-mul few short in omega (arith, product)

module _ (c : Configuration) (p : ℕ) where
  pub grown_bounded : (level : ℕ) → IsWithinLimits (grown c p) → sum_by (grown_at p level) c.processes ≤ most_budgets
  grown_bounded level limits =
      let bounded = budgets_bounded (grown c p) level limits in
      let is = budgets-grown p level c.processes in
      omega (arith, bounded, is)

  -- the budgets play no part in blocking
  pub blocking-grown : (j : ℕ) → level_blocking (grown c p) j ≡ level_blocking c j
  blocking-grown j =
      ap (λ mutexes. greatest (map (λ mutex. mutex.hold) mutexes)) (filter_agree (can_block (grown c p) j) (can_block c j) (λ mutex. same mutex) c.mutexes)
    where
      same : (mutex : Mutex) → can_block (grown c p) j mutex ≡ can_block c j mutex
      same mutex = ap (λ t. nat_le mutex.ceiling j && t) (list_any-grown p (λ row. uses mutex row && (nat_lt j row.level || (nat_lt 0 row.threads && nat_lt j row.max_level))) (λ row. refl) c.processes)

sum_more : (f g : ℕ → ℕ) (low n : ℕ) → ((i : ℕ) → f i ≤ g i) → sum_from low n f ≤ sum_from low n g
sum_more f g low zero each = omega arith
sum_more f g low (suc n) each =
    let here = each low in
    let rest = sum_more f g (suc low) n each in
    omega (arith, here, rest)

module _ (c : Configuration) (p q : ℕ) (h : p ≤ q) where
  work_more : (j i : ℕ) → work_at (grown c p) j i ≤ work_at (grown c q) j i
  work_more j i =
      let more = budgets-more p q i c.processes h in
      let lesser = budgets-grown p i c.processes in
      let greater = budgets-grown q i c.processes in
      let each : release c i + budgets_at (grown c p) i ≤ release c i + budgets_at (grown c q) i = omega (arith, more, lesser, greater) in
      mul-le-mul_right (period c j / period c i) each

  pub demand_more : (j : ℕ) → level_demand (grown c p) j ≤ level_demand (grown c q) j
  demand_more j = sum_more (work_at (grown c p) j) (work_at (grown c q) j) 0 (suc j) (work_more j)

  -- what is accepted with the greater percentage is with the lesser
  pub accepted_less : IsAccepted (grown c q) → IsAccepted (grown c p)
  accepted_less accepted j inside =
      let fits = accepted j inside in
      let more = demand_more j in
      let lesser = blocking-grown c p j in
      let greater = blocking-grown c q j in
      omega (arith, fits, more, lesser, greater)
