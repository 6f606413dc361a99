use Rattle.dk_overhead.proofs.Recounts.{job-stop}
use Rattle.dk_overhead.proofs.laws.stops_keep_the_recount.Goals as goal

pub returns : goal.returns
returns c = λ k past e x j positive is. job-stop k past e x j is positive
