use Rattle.dk_overhead.proofs.Recounts.{job-idle, job-tick}
use Rattle.dk_overhead.proofs.laws.tick_keeps_the_recount.Goals as goal

pub returns : goal.returns
returns c = record { own = λ k past label work x j is. job-tick k past label x j is work; others = job-idle }
