use Rattle.dk_limits.proofs.LedgerSizes.{short_lines, text_fits}
use Rattle.dk_limits.proofs.laws.readable_ledgers_fit.Goals as goal

pub returns-clause-lines : goal.returns-clause-lines
returns-clause-lines c = short_lines

pub returns-clause-text : goal.returns-clause-text
returns-clause-text c = text_fits
