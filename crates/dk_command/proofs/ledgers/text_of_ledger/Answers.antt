use Rattle.dk_command.proofs.Names.{subst, IsNoText, IsWrongLine}
use Rattle.dk_command.proofs.ledgers.text_of_ledger.Goals as goal

pub returns-in-Report-clause-line : goal.returns-in-Report-clause-line
returns-in-Report-clause-line c = λ n e.
    subst (λ bytes. IsWrongLine n bytes × IsNoText bytes) c.as_slice.ensures.value (c.report_of_ledger.ensures.line n e)
