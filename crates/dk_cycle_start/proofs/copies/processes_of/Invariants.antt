use Rattle.dk_cycle_start.proofs.Names.{◌≡◌, take}
use Rattle.dk_cycle_start.proofs.copies.processes_of.Given as goal

abbrev pub invariant-loop-row : goal.invariant-loop-row
invariant-loop-row l = l.copies.items ≡ take l.row-index l.rows
