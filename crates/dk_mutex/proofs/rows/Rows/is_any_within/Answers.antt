use Rattle.dk_mutex.proofs.Names.{◌∙◌, ap, sym, list_any, is_within, is_within_owed, owed_by, taken}
use Rattle.dk_mutex.proofs.Owed.{any-by, within-taken}
use Rattle.dk_mutex.proofs.rows.Rows.is_any_within.Goals as goal

pub returns : goal.returns
returns c =
    let rows = c.self.inside.rows.items in
    let n = c.self.inside.owed in
    let x = c.self.inside.debtor in
    let id = c.args.id in
    let most = c.args.most in
    c.is_any_within.ensures
    ∙ ap (λ k. list_any (is_within_owed id most k) c.as_slice.result.now) c.owed_by.ensures
    ∙ ap (list_any (is_within_owed id most (owed_by id x n))) c.as_slice.ensures.value
    ∙ sym (any-by (taken n x) (is_within id most) (is_within_owed id most (owed_by id x n)) (within-taken id x n most) rows)
    ∙ ap (list_any (is_within id most)) c.self.view_is
