use Rattle.dk_mutex.proofs.Names.{◌≡◌, ◌∙◌, take, ap, sym, max, left_up_to}
use Rattle.dk_mutex.proofs.Least.{no_row}
use Rattle.dk_mutex.proofs.UpTo.{up_to-more}
use Rattle.dk_mutex.proofs.owing.left_up_to.Goals as goal

pub loop-row-preserved : goal.loop-row-preserved
loop-row-preserved c =
    let rows = c.args.rows.now in
    let before : c.loop-row.most ≡ left_up_to c.args.id c.args.level (take c.loop-row.row-index rows) = c.loop-row.invariant in
    c.greater-most.ensures
    ∙ ap (λ n. max n c.left_under.result) before
    ∙ ap (max (left_up_to c.args.id c.args.level (take c.loop-row.row-index rows))) c.left_under.ensures
    ∙ sym (up_to-more c.args.id c.args.level rows c.loop-row.row-index no_row c.loop-row-test.true)
