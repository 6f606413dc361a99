use Rattle.dk_mutex.proofs.Names.{◌≡◌, drop, first_holder, holder_at}
use Rattle.dk_mutex.proofs.front.holder_among.Given as goal

abbrev pub invariant-loop-row : goal.invariant-loop-row
invariant-loop-row l = holder_at l.level l.rows ≡ first_holder l.rows l.level (drop l.row-index l.rows)
