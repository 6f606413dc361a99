use Rattle.std.proofs.Common.{◌∙◌, ap, arith}
use Rattle.std.proofs.lemmas.List.{take_all}
use Rattle.std.proofs.lemmas.List.Sums.{sum_by_more}
use Rattle.dk_report.specs.Sums.{kernel_of}
use Rattle.dk_report.proofs.sums.kernel_of.Goals as goal

pub loop-level-preserved : goal.loop-level-preserved
loop-level-preserved c =
    let more = sum_by_more (λ n. n) c.args.levels.now c.loop-level.level 0 c.loop-level-test.true in
    omega (arith, more, c.loop-level.invariant)

pub returns : goal.returns
returns c = c.loop-level.invariant ∙ ap kernel_of (take_all c.loop-level.level c.args.levels.now c.loop-level-test.false)
