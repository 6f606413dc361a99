use Rattle.dk_certify.proofs.VerdictLemmas.{TableSoFar}
use Rattle.dk_certify.proofs.certifying.certify.Given as goal

abbrev pub invariant-loop-level : goal.invariant-loop-level
invariant-loop-level l = TableSoFar l.config l.level l.table
