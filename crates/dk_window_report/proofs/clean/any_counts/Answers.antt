use Rattle.std.proofs.Common.{◌<◌, ◌∙◌, ap, sym, false, length, arith}
use Rattle.std.specs.List.{list_any}
use Rattle.std.proofs.lemmas.List.{take_all, length-map}
use Rattle.dk_window_report.specs.Late.{row_at, rows_at}
use Rattle.dk_window_report.specs.Clean.{counts}
use Rattle.dk_window_report.proofs.Found.{no_late}
use Rattle.dk_window_report.proofs.Lines.{any-found, any-more}
use Rattle.dk_window_report.proofs.LateRows.{within-rows, row-got}
use Rattle.dk_window_report.proofs.clean.any_counts.Goals as goal

pub returns-then-counts : goal.returns-then-counts
returns-then-counts c =
    let lates = c.args.lates.now in
    let tick = c.args.tick in
    let i = c.loop-place.place in
    let there : i < length lates = omega (arith, c.loop-place-test.true) in
    any-found (counts c.args.sparing c.args.accounts.now) (rows_at tick lates) i (row_at tick no_late) c.row_at.result
    (within-rows tick lates i there) (row-got tick lates i no_late c.row_at.result there c.row_at.ensures) (sym c.counts.ensures ∙ c.if-counts.true)

pub loop-place-preserved : goal.loop-place-preserved
loop-place-preserved c =
    let lates = c.args.lates.now in
    let tick = c.args.tick in
    let i = c.loop-place.place in
    let there : i < length lates = omega (arith, c.loop-place-test.true) in
    sym (any-more (counts c.args.sparing c.args.accounts.now) (rows_at tick lates) i (row_at tick no_late) c.row_at.result false false
    (within-rows tick lates i there) (row-got tick lates i no_late c.row_at.result there c.row_at.ensures) (sym c.loop-place.invariant)
    (sym c.if-counts.false ∙ c.counts.ensures))

pub returns : goal.returns
returns c =
    let lates = c.args.lates.now in
    let over = c.loop-place-test.false in
    let same = length-map lates (row_at c.args.tick) in
    sym c.loop-place.invariant ∙ ap (list_any (counts c.args.sparing c.args.accounts.now)) (take_all c.loop-place.place (rows_at c.args.tick lates) (omega (arith, over, same)))
