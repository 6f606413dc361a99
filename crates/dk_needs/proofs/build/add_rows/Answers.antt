use Rattle.std.proofs.Common.{◌∙◌, ◌++◌, ap, refl, sym}
use Rattle.toml.specs.View.{view}
use Rattle.dk_needs.specs.Reading.{need_row}
use Rattle.dk_needs.specs.Shape.{from_row}
use Rattle.dk_needs.proofs.Lists.{from_row-map, row_more, rows_done}
use Rattle.dk_needs.proofs.build.add_rows.Goals as goal

pub loop-row-preserved : goal.loop-row-preserved
loop-row-preserved c =
    row_more (λ k v. need_row c.args.section k (view v)) c.args.rows.now c.loop-row.row c.index-rows-row.result c.loop-row.needs.items c.add_need.new.needs.items
    (c.args.needs.now.items ++ from_row (λ k v. need_row c.args.section k (view v)) 0 c.args.rows.now)
    (need_row c.args.section c.loop-row.row (view c.index-rows-row.result))
    c.loop-row-test.true c.index-rows-row.is refl c.in_ok-add_need.ensures c.loop-row.invariant

pub returns : goal.returns
returns c =
    rows_done (λ k v. need_row c.args.section k (view v)) c.args.rows.now c.loop-row.row c.loop-row.needs.items
    (c.args.needs.now.items ++ from_row (λ k v. need_row c.args.section k (view v)) 0 c.args.rows.now) c.loop-row-test.false c.loop-row.invariant
    ∙ ap (λ xs. c.args.needs.now.items ++ xs) (sym (from_row-map view (need_row c.args.section) 0 c.args.rows.now))
