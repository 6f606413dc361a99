use Rattle.dk_loader.proofs.ProgramLemmas.{AreRead}
use Rattle.dk_loader.proofs.programs.read_programs.Given as goal

abbrev pub invariant-loop-p : goal.invariant-loop-p
invariant-loop-p g l =
    AreRead l.processes l.p l.programs.items (g.D.Depot.seen l.initial.depot) (g.D.Depot.seen l.depot)
