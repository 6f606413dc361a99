-- The number of a row that there is, and what the budgets of a level come to.
use Rattle.std.proofs.Common.{◌≡◌, ◌<◌, ◌≤◌, ℕ, List, length, get_or, ◌*◌, ap, arith}
use Rattle.std.specs.Prelude.{slice_get, ◌==◌, if◌then◌else◌, Bool, true, false}
use Rattle.std.specs.Option.{option_map_or}
use Rattle.std.proofs.lemmas.Option.{slice_get-get_or}
use Rattle.std.proofs.lemmas.List.Sums.{sum_by-le}
use Rattle.dk_config.specs.declared.TheConstants.{MAX_PROCESSES, MAX_SPAN}
use Rattle.dk_config.specs.Configuration.{Configuration}
use Rattle.dk_config.specs.Certification.{budgets_at}
use Rattle.dk_config.specs.Checked.{IsWithinLimits}

pub of_row : {A : Type 0} (f : A → ℕ) (xs : List A) (i : ℕ) (d : A) → i < length xs → option_map_or f (slice_get xs i) 0 ≡ f (get_or xs i d)
of_row f xs i d h = ap (λ o. option_map_or f o 0) (slice_get-get_or xs i d h)

budget_or_none : (b : Bool) (n m : ℕ) → n ≤ m → (if b then n else 0) ≤ m
budget_or_none true n m h = h
budget_or_none false n m h = omega arith

-- as many budgets as there may be processes
pub budgets_bounded : (c : Configuration) (level : ℕ) → IsWithinLimits c → budgets_at c level ≤ MAX_PROCESSES * MAX_SPAN
budgets_bounded c level limits =
    let each = sum_by-le (λ row. if row.level == level then row.budget else 0) MAX_SPAN c.processes
    (λ k d h. budget_or_none ((get_or c.processes k d).level == level) (get_or c.processes k d).budget MAX_SPAN
    (let is = of_row (λ row. row.budget) c.processes k d h in let within = limits.budgets k in omega (arith, is, within))) in
    let few = limits.few_processes in
    omega (arith, each, few)
