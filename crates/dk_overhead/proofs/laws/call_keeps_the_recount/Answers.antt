use Rattle.dk_overhead.proofs.Recounts.{job-event, job-wait}
use Rattle.dk_overhead.proofs.laws.call_keeps_the_recount.Goals as goal

pub returns : goal.returns
returns c = record { wait = job-wait; others = job-event }
