use Rattle.std.proofs.Common.{rules, ◌≡◌, length}
use Rattle.dk_allotment.specs.Given.{most_part, part}
use Rattle.dk_allotment.proofs.Sums.{sum_step, whole_sum}
use Rattle.dk_allotment.proofs.given.allotted_at.Goals as goal

pub loop-process-preserved : goal.loop-process-preserved
loop-process-preserved c =
    sum_step (part c.args.config.now c.args.allotments.now c.args.level) most_part c.loop-process.process c.loop-process.sum c.part_of-sum.result c.loop-process.invariant c.part_of-sum.ensures.part c.part_of-sum.ensures.bounded

pub returns : goal.returns
returns c =
    let all : c.loop-process.process ≡ length c.args.config.now.processes = search rules in
    whole_sum (part c.args.config.now c.args.allotments.now c.args.level) most_part c.loop-process.process c.loop-process.sum (length c.args.config.now.processes) c.loop-process.invariant all
