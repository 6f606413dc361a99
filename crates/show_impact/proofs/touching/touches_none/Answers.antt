use Rattle.std.proofs.Common.{◌∙◌, ◌<◌, sym, length, arith}
use Rattle.show_impact.specs.Touching.{is_touched}
use Rattle.show_impact.proofs.Others.{one_fails, one_passes}
use Rattle.show_impact.proofs.touching.touches_none.Goals as goal

pub returns-then-is_touched : goal.returns-then-is_touched
returns-then-is_touched c =
    let touched = is_touched c.args.new.now.config c.args.rows.now c.args.names.now in
    let below : c.loop-process.process < length c.args.new.now.config.processes = omega (arith, c.how_many-process-end.ensures, c.loop-process-test.true) in
    one_fails touched (length c.args.new.now.config.processes) c.loop-process.process below (sym c.is_touched.ensures ∙ c.if-is_touched.true)

pub loop-process-preserved : goal.loop-process-preserved
loop-process-preserved c =
    one_passes (is_touched c.args.new.now.config c.args.rows.now c.args.names.now) c.loop-process.process c.loop-process.invariant
    (sym c.is_touched.ensures ∙ c.if-is_touched.false)
