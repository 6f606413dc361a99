use Rattle.dk_mutex.proofs.Names.{◌≡◌, map, take, ceiling_of, least}
use Rattle.dk_mutex.proofs.front.least_ceiling.Given as goal

abbrev pub invariant-loop-row : goal.invariant-loop-row
invariant-loop-row l = l.least ≡ least (map (ceiling_of l.id) (take l.row-index l.rows))
