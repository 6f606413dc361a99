use Rattle.dk_warnings.proofs.Refused as holds
use Rattle.dk_warnings.proofs.laws.hold_never_fits_law.Goals as goal

pub returns-clause-refused : goal.returns-clause-refused
returns-clause-refused c d past checked accepted audited =
    holds.refused d past checked audited (c.cause_law.ensures d past checked accepted audited) (c.chosen_law.ensures d past checked accepted audited)
    (c.threads_law.ensures d past checked accepted audited)

pub returns-clause-never : goal.returns-clause-never
returns-clause-never c = holds.never c.cause_law.ensures c.chosen_law.ensures c.threads_law.ensures
