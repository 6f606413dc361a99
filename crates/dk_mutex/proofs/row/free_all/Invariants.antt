use Rattle.dk_mutex.proofs.Names.{◌≡◌, ◌++◌, map, take, drop, freed}
use Rattle.dk_mutex.proofs.row.free_all.Given as goal

abbrev pub invariant-loop-row : goal.invariant-loop-row
invariant-loop-row l = l.rows ≡ map (freed l.id) (take l.row-index l.initial.rows) ++ drop l.row-index l.initial.rows
