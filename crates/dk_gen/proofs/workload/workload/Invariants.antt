use Rattle.dk_gen.proofs.Steps.{Made}
use Rattle.dk_gen.proofs.workload.workload.Given as goal

abbrev pub invariant-loop-i : goal.invariant-loop-i
invariant-loop-i l = Made l.number l.i l.draws l.processes.items l.programs.items
