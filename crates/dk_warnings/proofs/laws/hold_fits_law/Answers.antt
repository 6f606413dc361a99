use Rattle.dk_warnings.proofs.ChildLock.{fitting}
use Rattle.dk_warnings.proofs.laws.hold_fits_law.Goals as goal

pub returns : goal.returns
returns c d p m checked accepted known user fits = fitting d p checked accepted known c.cause_law.ensures c.received_law.ensures m user fits
