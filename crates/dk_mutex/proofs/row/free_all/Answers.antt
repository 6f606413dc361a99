use Rattle.dk_mutex.proofs.Names.{◌∙◌, get_or, ap, set, arith, get_or_default, map_over_more, Holder, freed}
use Rattle.std.specs.Prelude.{Option}
use Rattle.dk_mutex.proofs.Least.{no_row}
use Rattle.dk_mutex.proofs.row.free_all.Goals as goal

pub loop-row-preserved : goal.loop-row-preserved
loop-row-preserved c =
    let rows = c.loop-row.rows in
    let i = c.loop-row.row-index in
    let row = get_or rows i no_row in
    ap (λ (h : Option Holder). set rows i (record row { holder = h })) c.unless_by-row.ensures
    ∙ map_over_more (freed c.args.id) c.args.rows.now rows i row c.loop-row-test.true c.loop-row.invariant (get_or_default rows i no_row row (omega arith))
