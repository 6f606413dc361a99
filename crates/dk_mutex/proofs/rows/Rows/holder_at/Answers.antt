use Rattle.dk_mutex.proofs.Names.{◌∙◌, ap, sym, List, Lockable, holder_at}
use Rattle.dk_mutex.proofs.Owed.{taken-first}
use Rattle.dk_mutex.proofs.rows.Rows.holder_at.Goals as goal

pub returns : goal.returns
returns c =
    c.holder_among.ensures
    ∙ ap (λ (rs : List Lockable). holder_at c.args.level rs) c.as_slice.ensures.value
    ∙ sym (taken-first c.self.inside.owed c.self.inside.debtor c.args.level c.self.inside.rows.items)
    ∙ ap (λ (rs : List Lockable). holder_at c.args.level rs) c.self.view_is
