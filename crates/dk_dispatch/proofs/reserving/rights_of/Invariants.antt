use Rattle.dk_dispatch.proofs.Names.{◌≡◌, map, take, ProcessRow}
use Rattle.dk_dispatch.proofs.reserving.rights_of.Given as goal

abbrev pub invariant-loop-process : goal.invariant-loop-process
invariant-loop-process l = l.rights.items ≡ map (λ (row : ProcessRow). row.slack) (take l.process-index l.process-items)
