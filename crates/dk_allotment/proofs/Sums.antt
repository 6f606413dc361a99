-- Sums of allotments, process by process.
use Rattle.std.proofs.Common.{ℕ, suc, ◌≡◌, ◌+◌, ◌≤◌, ap, sym, ◌∙◌, arith, zero-add, add-one}
use Rattle.dk_config.specs.Sums.{sum_from}
use Rattle.dk_config.proofs.Counting.{sum_from-more}
use Rattle.dk_allotment.specs.Given.{SumSoFar}

pub sum_step : (number : ℕ → ℕ) (most process sum more : ℕ) → SumSoFar number most process sum → more ≡ number process → more ≤ most
    → SumSoFar number most (process + 1) (sum + more)
sum_step number most process sum more before is few =
    let so_far : sum ≡ sum_from 0 process number = before.so_far in
    let here : number (0 + process) ≡ number process = ap number (zero-add process) in
    let next = sum_from-more 0 process number in
    let added : sum + more ≡ sum_from 0 (suc process) number = omega (arith, so_far, is, here, next) in
    record {
      so_far = added ∙ ap (λ n. sum_from 0 n number) (sym (add-one process));
      bounded = let bounded = before.bounded in omega (arith, bounded, few);
    }

pub whole_sum : (number : ℕ → ℕ) (most process sum count : ℕ) → SumSoFar number most process sum → process ≡ count → sum ≡ sum_from 0 count number
whole_sum number most process sum count so_far all = so_far.so_far ∙ ap (λ n. sum_from 0 n number) all
