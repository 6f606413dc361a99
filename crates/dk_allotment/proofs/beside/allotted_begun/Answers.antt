use Rattle.std.proofs.Common.{rules, ◌≡◌, length}
use Rattle.dk_allotment.specs.Beside.{most_begun, part_begun}
use Rattle.dk_allotment.proofs.Sums.{sum_step, whole_sum}
use Rattle.dk_allotment.proofs.beside.allotted_begun.Goals as goal

pub loop-process-preserved : goal.loop-process-preserved
loop-process-preserved c =
    sum_step (part_begun c.args.config.now c.args.allotments.now c.args.level c.args.ticks) most_begun c.loop-process.process c.loop-process.sum c.part_begun-sum.result c.loop-process.invariant c.part_begun-sum.ensures.part c.part_begun-sum.ensures.bounded

pub returns-clause-sum : goal.returns-clause-sum
returns-clause-sum c =
    let all : c.loop-process.process ≡ length c.args.config.now.processes = search rules in
    whole_sum (part_begun c.args.config.now c.args.allotments.now c.args.level c.args.ticks) most_begun c.loop-process.process c.loop-process.sum (length c.args.config.now.processes) c.loop-process.invariant all
