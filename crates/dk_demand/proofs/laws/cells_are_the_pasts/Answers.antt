use Rattle.dk_demand.proofs.Recounts.{blocking-past, own-past, remaining-past}
use Rattle.dk_demand.proofs.laws.cells_are_the_pasts.Goals as goal

pub returns : goal.returns
returns c = record { own = own-past; remaining = remaining-past; blocking = blocking-past }
