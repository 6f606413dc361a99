use Rattle.dk_mutex.proofs.Names.{◌∙◌, ap, map, sym, List, Lockable, ceiling_of, least}
use Rattle.dk_mutex.proofs.Owed.{taken-least}
use Rattle.dk_mutex.proofs.rows.Rows.least_ceiling.Goals as goal

pub returns : goal.returns
returns c =
    c.least_ceiling.ensures
    ∙ ap (λ (rs : List Lockable). least (map (ceiling_of c.args.id) rs)) c.as_slice.ensures.value
    ∙ sym (taken-least c.self.inside.owed c.self.inside.debtor c.args.id c.self.inside.rows.items)
    ∙ ap (λ (rs : List Lockable). least (map (ceiling_of c.args.id) rs)) c.self.view_is
