use Rattle.dk_threads.proofs.Names.{subst, Table, AreFamilies}
use Rattle.dk_threads.proofs.threads.Threads.rows_are_in_order.Goals as goal

pub returns : goal.returns
returns c = subst (λ (table : Table). AreFamilies table.levels table.families) c.self.view_is c.self.invariant
