use Rattle.dk_demand.proofs.Changing.{slice_get-by_level}
use Rattle.dk_demand.proofs.Recounts.{each_level-changed}
use Rattle.dk_demand.proofs.laws.cells_are_changed_by_level.Goals as goal

pub returns : goal.returns
returns c = record { at = slice_get-by_level; recount = each_level-changed }
