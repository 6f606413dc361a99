use Rattle.std.proofs.Common.{◌≡◌, take, map}
use Rattle.dk_gen.proofs.workload.names_of.Given as goal

abbrev pub invariant-loop-process : goal.invariant-loop-process
invariant-loop-process l = l.names.items ≡ map (λ row. row.name) (take l.process-index l.processes)
