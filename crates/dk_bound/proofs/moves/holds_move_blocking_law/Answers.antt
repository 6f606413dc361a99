use Rattle.dk_bound.proofs.HoldMoves.{unlock_lowers_blocking}
use Rattle.dk_bound.proofs.moves.holds_move_blocking_law.Goals as goal

pub returns-clause-unlock : goal.returns-clause-unlock
returns-clause-unlock c = unlock_lowers_blocking
