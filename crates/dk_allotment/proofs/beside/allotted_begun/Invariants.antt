use Rattle.dk_allotment.specs.Beside.{most_begun, part_begun}
use Rattle.dk_allotment.specs.Given.{SumSoFar}
use Rattle.dk_allotment.proofs.beside.allotted_begun.Given as goal

abbrev pub invariant-loop-process : goal.invariant-loop-process
invariant-loop-process l = SumSoFar (part_begun l.config l.allotments l.level l.ticks) most_begun l.process l.sum
