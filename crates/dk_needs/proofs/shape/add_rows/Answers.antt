use Rattle.std.proofs.Common.{◌∙◌, ◌++◌, ap, refl, sym}
use Rattle.toml.specs.View.{view}
use Rattle.dk_needs.specs.Shape.{from_row, row_faults}
use Rattle.dk_needs.proofs.Lists.{from_row-map, row_more, rows_done}
use Rattle.dk_needs.proofs.shape.add_rows.Goals as goal

pub loop-row-preserved : goal.loop-row-preserved
loop-row-preserved c =
    row_more (λ k v. row_faults c.args.section k (view v)) c.args.rows.now c.loop-row.row c.index-rows-row.result c.loop-row.found.items c.add_row.new.found.items
    (c.args.found.now.items ++ from_row (λ k v. row_faults c.args.section k (view v)) 0 c.args.rows.now)
    (row_faults c.args.section c.loop-row.row (view c.index-rows-row.result))
    c.loop-row-test.true c.index-rows-row.is refl c.in_ok-add_row.ensures c.loop-row.invariant

pub returns : goal.returns
returns c =
    rows_done (λ k v. row_faults c.args.section k (view v)) c.args.rows.now c.loop-row.row c.loop-row.found.items
    (c.args.found.now.items ++ from_row (λ k v. row_faults c.args.section k (view v)) 0 c.args.rows.now) c.loop-row-test.false c.loop-row.invariant
    ∙ ap (λ xs. c.args.found.now.items ++ xs) (sym (from_row-map view (row_faults c.args.section) 0 c.args.rows.now))
