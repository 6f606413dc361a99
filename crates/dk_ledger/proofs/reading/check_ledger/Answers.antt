use Rattle.dk_ledger.proofs.Names.{◌∙◌, LedgerFault}
use Rattle.dk_ledger.proofs.Readings.{passed_on}
use Rattle.dk_ledger.proofs.reading.check_ledger.Goals as goal

pub returns-in_err-pass_lines-clause-line : goal.returns-in_err-pass_lines-clause-line
returns-in_err-pass_lines-clause-line c = λ n e.
    c.pass_lines.ensures.line n
    (c.in_err-pass_lines.was ∙ passed_on c.from_residual.result c.in_err-pass_lines.field-0.0 (LedgerFault.Line n) c.from_residual.ensures.1 e)
