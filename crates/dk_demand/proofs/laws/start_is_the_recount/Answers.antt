use Rattle.dk_demand.proofs.Clocking.{cells-start}
use Rattle.dk_demand.proofs.laws.start_is_the_recount.Goals as goal

pub returns : goal.returns
returns c = cells-start c.cells_are_changed_by_level.ensures.recount c.windows_release_law.ensures c.holds_move_blocking_law.ensures.start
