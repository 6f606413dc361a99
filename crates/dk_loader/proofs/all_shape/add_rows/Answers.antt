use Rattle.dk_loader.proofs.Names.{◌∙◌, ◌++◌, ap, refl, sym, view, each_row, broken, rows_added, row_tests}
use Rattle.dk_loader.proofs.AllBroken.{row_more, tests_of_rows}
use Rattle.dk_loader.proofs.Rows.{each_row-map}
use Rattle.dk_loader.proofs.all_shape.add_rows.Goals as goal

pub loop-i-preserved : goal.loop-i-preserved
loop-i-preserved c =
    row_more (tests_of_rows c.args.rule c.args.section c.args.version) c.args.rows.now c.loop-i.i c.index-rows-i.result c.loop-i.found.items c.add_row.new.found.items
    (c.args.found.now.items ++ broken (each_row (tests_of_rows c.args.rule c.args.section c.args.version) 0 c.args.rows.now))
    (broken (row_tests c.args.rule c.args.section c.args.version c.loop-i.i (view c.index-rows-i.result)))
    c.loop-i-test.true c.index-rows-i.is refl c.in_ok-add_row.ensures c.loop-i.invariant

pub returns : goal.returns
returns c =
    rows_added (tests_of_rows c.args.rule c.args.section c.args.version) c.args.rows.now c.loop-i.i c.loop-i.found.items
    (c.args.found.now.items ++ broken (each_row (tests_of_rows c.args.rule c.args.section c.args.version) 0 c.args.rows.now)) c.loop-i-test.false c.loop-i.invariant
    ∙ ap (λ ts. c.args.found.now.items ++ broken ts) (sym (each_row-map view (row_tests c.args.rule c.args.section c.args.version) 0 c.args.rows.now))
