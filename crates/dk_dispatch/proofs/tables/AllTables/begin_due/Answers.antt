use Rattle.dk_dispatch.proofs.Names.{◌≡◌, ◌∙◌, false, ap, sym, subst, Clock, begins_at, HasFamilies, IsSound, Tables}
use Rattle.dk_dispatch.proofs.tables.AllTables.begin_due.Goals as goal

pub move_and_begin-requires : goal.move_and_begin-requires
move_and_begin-requires g c = λ after.
    c.requires.may (subst IsSound c.self.view_is c.self.invariant) (subst HasFamilies c.self.view_is c.rows_are_in_order.ensures) after

pub returns-then-begins-clause-before : goal.returns-then-begins-clause-before
returns-then-begins-clause-before g c = subst HasFamilies c.self.view_is c.rows_are_in_order.ensures

pub returns-else-begins-clause-before : goal.returns-else-begins-clause-before
returns-else-begins-clause-before g c = subst HasFamilies c.self.view_is c.rows_are_in_order.ensures

pub returns-else-begins-clause-after : goal.returns-else-begins-clause-after
returns-else-begins-clause-after g c =
    let off : begins_at c.args.self.now.demand.windows 0 ≡ false =
    ap (λ (t : Tables). begins_at t.demand.windows 0) (sym c.self.view_is)
    ∙ ap (λ (w : Clock). begins_at w 0) (sym c.windows.ensures) ∙ sym c.begins.ensures ∙ c.if-begins.false in
    subst HasFamilies (sym (c.requires.still off)) (subst HasFamilies c.self.view_is c.rows_are_in_order.ensures)
