use Rattle.dk_mutex.proofs.Names.{◌≡◌, ◌∙◌, get_or, map, take, ap, sym, ceiling_of, joined, least}
use Rattle.dk_mutex.proofs.Least.{least-more, no_row}
use Rattle.dk_mutex.proofs.front.least_ceiling.Goals as goal

pub loop-row-preserved : goal.loop-row-preserved
loop-row-preserved c =
    let rows = c.args.rows.now in
    let before : c.loop-row.least ≡ least (map (ceiling_of c.args.id) (take c.loop-row.row-index rows)) = c.loop-row.invariant in
    c.join_ceiling.ensures
    ∙ ap (λ o. joined o (ceiling_of c.args.id (get_or rows c.loop-row.row-index no_row))) before
    ∙ sym (least-more (ceiling_of c.args.id) rows c.loop-row.row-index no_row c.loop-row-test.true)
