use Rattle.dk_needs_check.proofs.Listed.{AreSoFar}
use Rattle.dk_needs_check.proofs.deciding.decide.Given as goal

-- the rows of the needs so far
abbrev pub invariant-loop-i : goal.invariant-loop-i
invariant-loop-i l = AreSoFar l.config l.allotments l.needs l.i l.rows.items
