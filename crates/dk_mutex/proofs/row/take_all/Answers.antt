use Rattle.dk_mutex.proofs.Names.{◌∙◌, get_or, ap, set, arith, get_or_default, map_over_more, Lockable, taken}
use Rattle.dk_mutex.proofs.Least.{no_row}
use Rattle.dk_mutex.proofs.row.take_all.Goals as goal

pub loop-row-preserved : goal.loop-row-preserved
loop-row-preserved c =
    let rows = c.loop-row.rows in
    let i = c.loop-row.row-index in
    let row = get_or rows i no_row in
    ap (λ (r : Lockable). set rows i r) c.take_ticks.ensures
    ∙ map_over_more (taken c.args.ticks c.args.id) c.args.rows.now rows i row c.loop-row-test.true c.loop-row.invariant (get_or_default rows i no_row row (omega arith))
