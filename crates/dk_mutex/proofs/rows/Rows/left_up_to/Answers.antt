use Rattle.dk_mutex.proofs.Names.{◌∙◌, ◌-◌, ap, sym, left_up_to}
use Rattle.dk_mutex.proofs.Owed.{up_to-taken}
use Rattle.dk_mutex.proofs.rows.Rows.left_up_to.Goals as goal

pub returns : goal.returns
returns c =
    let rows = c.self.inside.rows.items in
    c.saturating_sub.ensures
    ∙ ap (λ l. l - c.owed_by.result) (c.left_up_to.ensures ∙ ap (left_up_to c.args.id c.args.level) c.as_slice.ensures.value)
    ∙ ap (λ k. left_up_to c.args.id c.args.level rows - k) c.owed_by.ensures
    ∙ sym (up_to-taken c.args.id c.self.inside.debtor c.self.inside.owed c.args.level rows)
    ∙ ap (left_up_to c.args.id c.args.level) c.self.view_is
