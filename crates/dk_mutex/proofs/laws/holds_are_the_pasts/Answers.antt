use Rattle.dk_mutex.proofs.Innermost.{held-past, innermost-past, left-past, within-past}
use Rattle.dk_mutex.proofs.laws.holds_are_the_pasts.Goals as goal

pub returns : goal.returns
returns c = record { held = held-past; innermost = innermost-past; left = left-past; within = within-past }
