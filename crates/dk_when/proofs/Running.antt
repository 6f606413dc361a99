-- Work that is added up.
use Rattle.std.proofs.Common.{◌≡◌, ◌∙◌, ap, ℕ, ◌+◌, ◌*◌, ◌≤◌, arith, add-one, zero-add}
use Rattle.dk_config.specs.Sums.{sum_from}
use Rattle.dk_config.proofs.Counting.{sum_from-more}
use Rattle.dk_when.specs.Bounds.{most_work}

-- the work of those before this one is added up
pub record WorkSoFar (each : ℕ → ℕ) (next work : ℕ) : Type 0 where
  pub so_far : work ≡ sum_from 0 next each
  pub few : work ≤ next * most_work

module _ (each : ℕ → ℕ) (next work : ℕ) (before : WorkSoFar each next work) where
  pub work_step : (more : ℕ) → more ≡ each next → more ≤ most_work → WorkSoFar each (next + 1) (work + more)
  work_step more is few = record {
    so_far =
        let so_far = before.so_far in
        let one_more : sum_from 0 (next + 1) each ≡ sum_from 0 next each + each next =
        ap (λ k. sum_from 0 k each) (add-one next) ∙ sum_from-more 0 next each ∙ ap (λ k. sum_from 0 next each + each k) (zero-add next) in
        omega (arith, so_far, is, one_more);
    few = let bounded = before.few in omega (arith, bounded, few);
  }

  pub whole_work : (end : ℕ) → next ≤ end → end ≤ next → work ≡ sum_from 0 end each
  whole_work end most least = before.so_far ∙ ap (λ n. sum_from 0 n each) (let all : next ≡ end = omega (arith, most, least) in all)
