use Rattle.dk_mutex.proofs.Names.{◌∙◌, ◌-◌, ap, sym, List, Lockable, hold_left}
use Rattle.dk_mutex.proofs.Owed.{hold-taken}
use Rattle.dk_mutex.proofs.rows.Rows.hold_left.Goals as goal

pub returns : goal.returns
returns c =
    let rows = c.self.inside.rows.items in
    c.saturating_sub.ensures
    ∙ ap (λ l. l - c.owed_by.result) (c.least_left.ensures ∙ ap (λ (rs : List Lockable). hold_left c.args.id rs) c.as_slice.ensures.value)
    ∙ ap (λ k. hold_left c.args.id rows - k) c.owed_by.ensures
    ∙ sym (hold-taken c.args.id c.self.inside.debtor c.self.inside.owed rows)
    ∙ ap (λ (rs : List Lockable). hold_left c.args.id rs) c.self.view_is
