use Rattle.dk_dispatch.proofs.Names.{arith, sum-next, future_shares}
use Rattle.dk_dispatch.proofs.levels.shares_to_come.Goals as goal

pub loop-process-preserved : goal.loop-process-preserved
loop-process-preserved c =
    let was = c.loop-process.invariant in
    let before = was.sum in
    let low = was.few in
    let next = sum-next (λ p. future_shares c.args.loans.now c.args.windows.now p c.args.level) c.loop-process.process c.args.processes c.loop-process-test.true in
    let added = c.future_shares-sum.ensures.shares in
    let few = c.future_shares-sum.ensures.few in
    record { sum = omega (arith, before, next, added); few = omega (arith, low, few) }
