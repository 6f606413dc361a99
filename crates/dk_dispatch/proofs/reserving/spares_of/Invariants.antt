use Rattle.dk_dispatch.proofs.Names.{◌≡◌, map, take, TableRow}
use Rattle.dk_dispatch.proofs.reserving.spares_of.Given as goal

abbrev pub invariant-loop-level : goal.invariant-loop-level
invariant-loop-level l = l.spares.items ≡ map (λ (row : TableRow). row.spare) (take l.level l.table)
