use Rattle.dk_dispatch.proofs.Names.{◌+◌, ◌*◌, ◌/◌, get_or, arith, sum-next, period_at}
use Rattle.dk_dispatch.proofs.levels.kernel_work.Goals as goal

pub loop-faster-preserved : goal.loop-faster-preserved
loop-faster-preserved c =
    let was = c.loop-faster.invariant in
    let before = was.sum in
    let low = was.few in
    let next = sum-next (λ i. get_or c.args.releases.now.items i 0 * (period_at c.args.windows.now c.args.level / period_at c.args.windows.now i))
    c.loop-faster.faster (c.args.level + 1) c.loop-faster-test.true in
    let added = c.faster_work-sum.ensures.work in
    let few = c.faster_work-sum.ensures.few in
    record { sum = omega (arith, before, next, added); few = omega (arith, low, few) }
