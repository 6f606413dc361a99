use Rattle.dk_mutex.proofs.Names.{◌∙◌, ap, sym, position_from, is_within, is_within_owed, owed_by, taken}
use Rattle.dk_mutex.proofs.Owed.{position-by, within-taken}
use Rattle.dk_mutex.proofs.rows.Rows.first_within.Goals as goal

pub returns : goal.returns
returns c =
    let rows = c.self.inside.rows.items in
    let n = c.self.inside.owed in
    let x = c.self.inside.debtor in
    let id = c.args.id in
    let most = c.args.most in
    c.first_within.ensures
    ∙ ap (λ k. position_from (is_within_owed id most k) 0 rows) c.owed_by.ensures
    ∙ sym (position-by (taken n x) (is_within id most) (is_within_owed id most (owed_by id x n)) (within-taken id x n most) 0 rows)
    ∙ ap (position_from (is_within id most) 0) c.self.view_is
