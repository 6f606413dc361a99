use Rattle.dk_mutex.proofs.Names.{take, IsFirstHold}
use Rattle.dk_mutex.proofs.front.first_hold.Given as goal

abbrev pub invariant-loop-row : goal.invariant-loop-row
invariant-loop-row l = IsFirstHold l.first (take l.row-index l.rows)
