use Rattle.dk_times.proofs.Jobs.{has_jobs, takes}
use Rattle.dk_times.proofs.Within.{within}
use Rattle.dk_times.proofs.laws.jobs_law.Goals as goal

pub returns-clause-jobs : goal.returns-clause-jobs
returns-clause-jobs c = has_jobs

pub returns-clause-within : goal.returns-clause-within
returns-clause-within c = within

pub returns-clause-ticks : goal.returns-clause-ticks
returns-clause-ticks c = takes
