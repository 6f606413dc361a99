use Rattle.dk_allotment.specs.Beside.{FitsBeside}
use Rattle.dk_allotment.specs.Given.{given}
use Rattle.dk_allotment.proofs.beside.most_beside.Given as goal

abbrev pub invariant-loop-level : goal.invariant-loop-level
invariant-loop-level l = FitsBeside l.config (given l.allotments) l.process l.level l.most
