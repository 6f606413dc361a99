use Rattle.dk_mutex.proofs.Names.{◌≡◌, take, left_up_to}
use Rattle.dk_mutex.proofs.owing.left_up_to.Given as goal

abbrev pub invariant-loop-row : goal.invariant-loop-row
invariant-loop-row l = l.most ≡ left_up_to l.id l.level (take l.row-index l.rows)
