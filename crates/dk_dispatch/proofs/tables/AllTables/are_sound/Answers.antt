use Rattle.dk_dispatch.proofs.Names.{subst, HasFamilies, IsSound}
use Rattle.dk_dispatch.proofs.tables.AllTables.are_sound.Goals as goal

pub returns-clause-sound : goal.returns-clause-sound
returns-clause-sound c = subst IsSound c.self.view_is c.self.invariant

pub returns-clause-families : goal.returns-clause-families
returns-clause-families c = subst HasFamilies c.self.view_is c.rows_are_in_order.ensures
