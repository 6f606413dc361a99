use Rattle.dk_dispatch.proofs.Names.{subst, AreFamilies, Tables}
use Rattle.dk_dispatch.proofs.tables.AllTables.rows_are_in_order.Goals as goal

pub returns : goal.returns
returns c = subst (λ (t : Tables). AreFamilies t.threads.levels t.threads.families) c.self.view_is c.rows_are_in_order.ensures
