use Rattle.dk_dispatch.proofs.Names.{◌∙◌, ap, subst, AreFamilies, find_row, found-fits, Tables, found-own}
use Rattle.dk_dispatch.proofs.tables.AllTables.find.Goals as goal

pub returns-clause-fits : goal.returns-clause-fits
returns-clause-fits c =
    found-fits c.args.self.now.threads c.args.id c.find.result
    (subst (λ (t : Tables). AreFamilies t.threads.levels t.threads.families) c.self.view_is c.rows_are_in_order.ensures)
    (c.find.ensures ∙ ap (λ (t : Tables). find_row t.threads c.args.id) c.self.view_is)

pub returns-clause-own : goal.returns-clause-own
returns-clause-own c =
    found-own c.args.self.now.threads c.args.id c.find.result
    (subst (λ (t : Tables). AreFamilies t.threads.levels t.threads.families) c.self.view_is c.rows_are_in_order.ensures)
    (c.find.ensures ∙ ap (λ (t : Tables). find_row t.threads c.args.id) c.self.view_is)
