use Rattle.dk_mutex.proofs.Names.{◌≡◌, map, take, left_of, least}
use Rattle.dk_mutex.proofs.front.least_left.Given as goal

abbrev pub invariant-loop-row : goal.invariant-loop-row
invariant-loop-row l = l.least ≡ least (map (left_of l.id) (take l.row-index l.rows))
