use Rattle.std.proofs.Common.{◌<◌, ◌∙◌, ap, length, arith}
use Rattle.std.proofs.lemmas.List.{take_all, length-map}
use Rattle.dk_window_report.specs.Late.{row_at, rows_at}
use Rattle.dk_window_report.specs.Report.{overruns_in}
use Rattle.dk_window_report.proofs.Found.{no_late}
use Rattle.dk_window_report.proofs.LateRows.{within-rows, row-got, overruns-more}
use Rattle.dk_window_report.proofs.clean.overruns_in.Goals as goal

pub loop-place-preserved : goal.loop-place-preserved
loop-place-preserved c =
    let lates = c.args.lates.now in
    let tick = c.args.tick in
    let i = c.loop-place.place in
    let there : i < length lates = omega (arith, c.loop-place-test.true) in
    c.saturating_add-sum.ensures
    ∙ overruns-more (rows_at tick lates) i (row_at tick no_late) c.row_at.result c.loop-place.sum (within-rows tick lates i there)
    (row-got tick lates i no_late c.row_at.result there c.row_at.ensures) c.loop-place.invariant

pub returns : goal.returns
returns c =
    let lates = c.args.lates.now in
    let over = c.loop-place-test.false in
    let same = length-map lates (row_at c.args.tick) in
    c.loop-place.invariant ∙ ap overruns_in (take_all c.loop-place.place (rows_at c.args.tick lates) (omega (arith, over, same)))
