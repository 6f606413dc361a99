use Rattle.dk_overhead.proofs.Recounts.{job-begins, job-stays}
use Rattle.dk_overhead.proofs.laws.opening_keeps_the_recount.Goals as goal

pub returns : goal.returns
returns c = record { stays = job-stays; begins = job-begins }
