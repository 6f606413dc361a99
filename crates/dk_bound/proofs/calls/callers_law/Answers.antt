use Rattle.dk_bound.proofs.Callers.{callers_stand}
use Rattle.dk_bound.proofs.CallersRun.{callers_run}
use Rattle.dk_bound.proofs.calls.callers_law.Goals as goal

pub returns-clause-stand : goal.returns-clause-stand
returns-clause-stand c = callers_stand

pub returns-clause-run : goal.returns-clause-run
returns-clause-run c = callers_run
