-- What the rows of two levels say of the work of one in a window of the other.
use Rattle.std.proofs.Common.{◌≡◌, ◌∙◌, sym, ◌<◌, ◌≤◌, ◌+◌, ◌*◌, ◌/◌, ℕ, suc, add-one, zero-add, List, length, get_or, ap, arith}
use Rattle.dk_config.specs.Configuration.{Configuration}
use Rattle.dk_config.specs.declared.rows.LevelRow.{LevelRow}
use Rattle.dk_config.specs.Windows.{period, release}
use Rattle.dk_config.specs.Certification.{budgets_at, level_demand}
use Rattle.dk_config.specs.Sums.{sum_from}
use Rattle.dk_certify.specs.Bounds.{most_work}
use Rattle.dk_config.proofs.Counting.{sum_from-more}
use Rattle.dk_config.proofs.Budgets.{of_row}

module _ (c : Configuration) (levels : List LevelRow) (same : levels ≡ c.levels) (i : ℕ) (d : LevelRow) (inside : i < length c.levels) where
  pub period_of_row : (get_or levels i d).period ≡ period c i
  period_of_row = ap (λ rows. (get_or rows i d).period) same ∙ sym (of_row (λ row. row.period) c.levels i d inside)

  pub release_of_row : (get_or levels i d).release ≡ release c i
  release_of_row = ap (λ rows. (get_or rows i d).release) same ∙ sym (of_row (λ row. row.release) c.levels i d inside)

abbrev work_at : Configuration → ℕ → ℕ → ℕ
work_at c level i = (release c i + budgets_at c i) * (period c level / period c i)

-- the work of the levels before this one is added up
pub record DemandSoFar (c : Configuration) (level faster demand : ℕ) : Type 0 where
  pub so_far : demand ≡ sum_from 0 faster (λ i. (release c i + budgets_at c i) * (period c level / period c i))
  pub bounded : demand ≤ faster * most_work

module _ (c : Configuration) (level faster demand : ℕ) where
  pub demand_step : (work : ℕ) → DemandSoFar c level faster demand → work ≡ (release c faster + budgets_at c faster) * (period c level / period c faster) → work ≤ most_work
      → DemandSoFar c level (faster + 1) (demand + work)
  demand_step work before is few =
      let here : work_at c level (0 + faster) ≡ work_at c level faster = ap (work_at c level) (zero-add faster) in
      let so_far : demand ≡ sum_from 0 faster (work_at c level) = before.so_far in
      let added : demand + work ≡ sum_from 0 (suc faster) (work_at c level) =
      ap (λ n. n + work) so_far ∙ ap (λ n. sum_from 0 faster (work_at c level) + n) (is ∙ sym here) ∙ sym (sum_from-more 0 faster (work_at c level)) in
      record {
        so_far = added ∙ ap (λ n. sum_from 0 n (work_at c level)) (sym (add-one faster));
        bounded = let bounded = before.bounded in omega (arith, bounded, few);
      }

  pub whole_demand : DemandSoFar c level faster demand → faster ≤ level + 1 → level + 1 ≤ faster → demand ≡ level_demand c level
  whole_demand so_far most least =
      let all : faster ≡ suc level = omega (arith, most, least) in
      so_far.so_far ∙ ap (λ n. sum_from 0 n (work_at c level)) all
