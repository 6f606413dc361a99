use Rattle.dk_dispatch.proofs.Names.{◌∙◌, sym, subst, HasFamilies, MayBegin}
use Rattle.dk_dispatch.proofs.tables.AllTables.move_and_begin.Goals as goal

pub begin-requires : goal.begin-requires
begin-requires g c =
    subst MayBegin (sym c.move_due.ensures) (c.requires (subst HasFamilies (c.self.view_is ∙ c.move_due.ensures) c.rows_are_in_order.ensures))

pub returns-clause-after : goal.returns-clause-after
returns-clause-after g c = subst HasFamilies (c.self.view_is ∙ c.move_due.ensures) c.rows_are_in_order.ensures
