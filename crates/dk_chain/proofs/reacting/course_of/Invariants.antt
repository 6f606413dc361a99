use Rattle.dk_chain.proofs.Paced.{Paced}
use Rattle.dk_chain.proofs.reacting.course_of.Given as goal

abbrev pub invariant-loop-next : goal.invariant-loop-next
invariant-loop-next l = Paced l.config l.first l.rest l.next-index l.last l.pace
