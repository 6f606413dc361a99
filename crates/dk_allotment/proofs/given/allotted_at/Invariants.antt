use Rattle.dk_allotment.specs.Given.{SumSoFar, most_part, part}
use Rattle.dk_allotment.proofs.given.allotted_at.Given as goal

abbrev pub invariant-loop-process : goal.invariant-loop-process
invariant-loop-process l = SumSoFar (part l.config l.allotments l.level) most_part l.process l.sum
