use Rattle.dk_audit.proofs.Names.{ℕ, ◌≡◌, ◌<◌, ◌+◌, ◌∙◌, List, length, get_or, take, arith, sym, slice_get, take_more_same, get_or_from_slice_get, TableRow}
use Rattle.std.specs.Prelude.{Some}
use Rattle.dk_audit.proofs.heading.are_rows_of.Goals as goal

-- one row more is the same
one_more : (rows table : List TableRow) (i : ℕ) (row d : TableRow) → i < length rows → length rows ≡ length table → take i rows ≡ take i table
    → get_or rows i d ≡ row → slice_get table i ≡ Some row → take (i + 1) rows ≡ take (i + 1) table
one_more rows table i row d inside long same here there =
    take_more_same rows table i d inside (omega (arith, inside, long)) same (here ∙ sym (get_or_from_slice_get table i row d there))

pub loop-level-preserved : goal.loop-level-preserved
loop-level-preserved c =
    let long : length c.args.rows.now ≡ length c.args.table.now = c.if-rows-count.false ∙ sym c.requires.all in
    one_more c.args.rows.now c.args.table.now c.loop-level.level c.row.result (record { period = 0; demand = 0; blocking = 0; spare = 0 })
    c.loop-level-test.true long c.loop-level.invariant (c.is_same_row.ensures.0 c.if-not-is_same_row.false) c.row.ensures
