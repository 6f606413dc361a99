use Rattle.dk_needs_always.proofs.Keeping.{first-ticks-tell}
use Rattle.dk_needs_always.proofs.laws.first_ticks_law.Goals as goal

pub returns : goal.returns
returns c = first-ticks-tell c.span_law.ensures
