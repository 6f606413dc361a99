use Rattle.dk_demand.proofs.Names.{◌≡◌, ◌<◌, ◌+◌, ◌%◌, ◌^◌, ◌∙◌, length, take, ap, arith, add-one, sum, sum_by_more}
use Rattle.dk_demand.proofs.cells.run_up_to.Goals as goal

pub loop-faster-preserved : goal.loop-faster-preserved
loop-faster-preserved c =
    let below : c.loop-faster.faster < length c.args.counters.now = omega arith in
    let more = sum_by_more (λ n. n) c.args.counters.now c.loop-faster.faster 0 below in
    omega (arith, more)

pub returns : goal.returns
returns c =
    let last : c.loop-faster.faster ≡ c.args.level + 1 = omega arith in
    c.loop-faster.invariant ∙ ap (λ n. sum (take n c.args.counters.now) % 2 ^ 64) (last ∙ add-one c.args.level)
