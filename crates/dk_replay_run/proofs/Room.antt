-- What the premises give in numbers: a budget fits into a window, and there is a job.
use Rattle.std.proofs.Common.{◌≡◌, ◌∙◌, refl, ap, ◌<◌, ◌≤◌, ◌+◌, ◌*◌, ◌/◌, ℕ, zero, suc, true, List, [], ◌∷◌, length, arith}
use Rattle.std.specs.Prelude.{◌==◌, if◌then◌else◌, slice_get, sum_by}
use Rattle.std.specs.Option.{option_map_or}
use Rattle.std.proofs.Math.Nat.{div_self}
use Rattle.std.proofs.lemmas.Bool.Decides.{nat_tests}
use Rattle.std.proofs.lemmas.List.Sums.{sum_by-cons}
use Rattle.dk_config.specs.Configuration.{Configuration}
use Rattle.dk_config.specs.declared.rows.ProcessRow.{ProcessRow}
use Rattle.dk_config.specs.Checked.{IsAccepted, IsChecked}
use Rattle.dk_config.specs.Certification.{budgets_at, level_blocking, level_demand}
use Rattle.dk_config.specs.Windows.{budget, main_level, period, release}
use Rattle.dk_config.proofs.Sums.{sum_from-term}
use Rattle.dk_replay_run.specs.Jobs.{HaveSomeWork}

-- the budgets of a row's level have its own
row-counted : (rows : List ProcessRow) (p j : ℕ) → option_map_or (λ (row : ProcessRow). row.level) (slice_get rows p) 0 ≡ j
    → option_map_or (λ (row : ProcessRow). row.budget) (slice_get rows p) 0 ≤ sum_by (λ (row : ProcessRow). if row.level == j then row.budget else 0) rows
row-counted [] p j is = omega arith
row-counted (row ∷ rows) zero j is =
    let test : (row.level == j) ≡ true = grind (arith, nat_tests) in
    let own : (if row.level == j then row.budget else 0) ≡ row.budget = rw test refl in
    let sums = sum_by-cons (λ (r : ProcessRow). if r.level == j then r.budget else 0) row rows in
    omega (arith, own, sums)
row-counted (row ∷ rows) (suc p) j is =
    let rest = row-counted rows p j is in
    let sums = sum_by-cons (λ (r : ProcessRow). if r.level == j then r.budget else 0) row rows in
    omega (arith, rest, sums)

same-div : (n : ℕ) → 0 < n → n / n ≡ 1
same-div n some = div_self some

pub budget-fits : (c : Configuration) (p : ℕ) → IsChecked c → IsAccepted c → p < length c.processes → budget c p ≤ period c (main_level c p)
budget-fits c p checked accepted known =
    let j : ℕ = main_level c p in
    let there : j < length c.levels = checked.levels p known in
    let whole : level_demand c j + level_blocking c j ≤ period c j = accepted j there in
    let term : (release c j + budgets_at c j) * (period c j / period c j) ≤ level_demand c j =
    sum_from-term 0 (suc j) (λ i. (release c i + budgets_at c i) * (period c j / period c i)) j (omega arith) (omega arith) in
    let once : period c j / period c j ≡ 1 = same-div (period c j) (checked.positive j there) in
    let one : (release c j + budgets_at c j) * (period c j / period c j) ≡ release c j + budgets_at c j =
    ap (λ k. (release c j + budgets_at c j) * k) once ∙ omega arith in
    let own : budget c p ≤ budgets_at c j = row-counted c.processes p j refl in
    omega (arith, whole, term, one, own)

pub some-timed : (times : List ℕ) → HaveSomeWork times → 0 < length times
some-timed [] works = absurd works
some-timed (n ∷ times) works = omega arith
