use Rattle.std.proofs.Common.{◌∙◌, ◌<◌, sym, length, arith}
use Rattle.show_impact.specs.Touching.{is_lost}
use Rattle.show_impact.proofs.Others.{one_fails, one_passes}
use Rattle.show_impact.proofs.touching.loses_none.Goals as goal

pub returns-then-is_lost : goal.returns-then-is_lost
returns-then-is_lost c =
    let lost = is_lost c.args.old.now.config c.args.new.now.config c.args.names.now in
    let below : c.loop-process.process < length c.args.old.now.config.processes = omega (arith, c.how_many-process-end.ensures, c.loop-process-test.true) in
    one_fails lost (length c.args.old.now.config.processes) c.loop-process.process below (sym c.is_lost.ensures ∙ c.if-is_lost.true)

pub loop-process-preserved : goal.loop-process-preserved
loop-process-preserved c =
    one_passes (is_lost c.args.old.now.config c.args.new.now.config c.args.names.now) c.loop-process.process c.loop-process.invariant
    (sym c.is_lost.ensures ∙ c.if-is_lost.false)
