use Rattle.dk_command.proofs.Names.{◌∙◌, subst, LedgerFault, IsNoText, IsWrongLine, passed_on}
use Rattle.dk_command.proofs.ledgers.lines_of_ledger.Goals as goal

pub returns-in_err-check_ledger-clause-line : goal.returns-in_err-check_ledger-clause-line
returns-in_err-check_ledger-clause-line c = λ n e.
    subst (λ bytes. IsWrongLine n bytes × IsNoText bytes) c.as_slice.ensures.value
    (c.check_ledger.ensures.line n
    (c.in_err-check_ledger.was ∙ passed_on c.from_residual.result c.in_err-check_ledger.field-0.0 (LedgerFault.Line n) c.from_residual.ensures.1 e))
