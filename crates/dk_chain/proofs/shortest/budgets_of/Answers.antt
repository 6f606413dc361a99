use Rattle.dk_chain.proofs.Names.{◌≡◌, ◌+◌, drop, ap, ◌∙◌, arith, budget, slice_index_or}
use Rattle.std.specs.Prelude.{sum_by}
use Rattle.std.proofs.lemmas.List.Sums.{sum_by-cons}
use Rattle.dk_chain.proofs.Paced.{drop-next}
use Rattle.dk_chain.proofs.shortest.budgets_of.Goals as goal

pub loop-process-preserved : goal.loop-process-preserved
loop-process-preserved c =
    let f = budget c.args.config.now in
    let xs = c.args.processes.now in
    let at = c.loop-process.process-index in
    let less = c.loop-process-test.true in
    let split : sum_by f (drop at xs) ≡ f (slice_index_or xs at 0) + sum_by f (drop (at + 1) xs) =
    ap (sum_by f) (drop-next xs at (omega (arith, less))) ∙ sum_by-cons f (slice_index_or xs at 0) (drop (at + 1) xs) in
    let sum = c.loop-process.invariant.sum in
    let few = c.loop-process.invariant.few in
    let ticks = c.budget_of.ensures.ticks in
    let most = c.budget_of.ensures.few in
    record {
      sum = omega (arith, split, sum, ticks);
      few = omega (arith, few, most);
    }
