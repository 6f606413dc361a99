use Rattle.dk_slack.proofs.Names.{◌+◌, ◌%◌, ◌^◌, drop, ap, arith, add-one, sum, drop_all, sum_by-drop_more}
use Rattle.dk_slack.proofs.unclaimed.run_of_slower.Goals as goal

pub loop-slower-init : goal.loop-slower-init
loop-slower-init c = ap (λ n. (c.args.nobodys + sum (drop n c.args.counters.now)) % 2 ^ 32) (add-one c.args.level)

pub loop-slower-preserved : goal.loop-slower-preserved
loop-slower-preserved c =
    let more = sum_by-drop_more (λ n. n) c.args.counters.now c.loop-slower.slower 0 c.loop-slower-test.true in
    omega (arith, more, c.loop-slower.invariant)

pub returns : goal.returns
returns c =
    let none = ap sum (drop_all c.loop-slower.slower c.args.counters.now c.loop-slower-test.false) in
    omega (arith, none, c.loop-slower.invariant)
