-- A run that keeps its promises.
use Rattle.dk_command.proofs.Names.{Result, Ok, Err, Refusal, Work, Makes, Fails, Job, Keeps, Does, WritesFor}

pub does_also : (r : Result Work Refusal) (job : Job) → Makes WritesFor Fails r job → Keeps job → Makes Does Fails r job
does_also (Ok w) job writes keeps = (writes, keeps)
does_also (Err e) job fails keeps = fails
