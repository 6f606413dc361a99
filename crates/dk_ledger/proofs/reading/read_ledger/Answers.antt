use Rattle.dk_ledger.proofs.Names.{◌∙◌, LedgerFault}
use Rattle.dk_ledger.proofs.Readings.{passed_on}
use Rattle.dk_ledger.proofs.reading.read_ledger.Goals as goal

pub returns-in_err-read_entries-clause-line : goal.returns-in_err-read_entries-clause-line
returns-in_err-read_entries-clause-line c = λ n e.
    c.read_entries.ensures.line n
    (c.in_err-read_entries.was ∙ passed_on c.from_residual.result c.in_err-read_entries.field-0.0 (LedgerFault.Line n) c.from_residual.ensures.1 e)
