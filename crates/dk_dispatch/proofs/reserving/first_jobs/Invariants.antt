use Rattle.dk_dispatch.proofs.Names.{◌≡◌, seated}
use Rattle.dk_dispatch.proofs.reserving.first_jobs.Given as goal

abbrev pub invariant-loop-process : goal.invariant-loop-process
invariant-loop-process g l = l.jobs ≡ seated l.config l.process
