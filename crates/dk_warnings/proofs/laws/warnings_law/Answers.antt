use Rattle.dk_warnings.proofs.Meaning.{of-all}
use Rattle.dk_warnings.proofs.laws.warnings_law.Goals as goal

pub returns : goal.returns
returns c d w checked limits accepted has = of-all c.cause_law.ensures c.chosen_law.ensures c.threads_law.ensures c.hold_never_fits_law.ensures.never d checked limits accepted w has
