use Rattle.dk_overhead.proofs.Recounts.{job-start}
use Rattle.dk_overhead.proofs.laws.start_is_the_recount.Goals as goal

pub returns : goal.returns
returns c = job-start
