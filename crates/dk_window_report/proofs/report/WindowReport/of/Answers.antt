use Rattle.std.proofs.Common.{◌∙◌, []}
use Rattle.dk_ledger.specs.declared.ledger.LedgerFault.{LedgerFault}
use Rattle.dk_ledger.proofs.NextItem.{if_ok}
use Rattle.dk_ledger.proofs.Readings.{passed_on}
use Rattle.dk_window_report.proofs.Reading.{comes_next}
use Rattle.dk_window_report.proofs.report.WindowReport.of.Goals as goal

pub returns-in_err-first-clause-line : goal.returns-in_err-first-clause-line
returns-in_err-first-clause-line c = λ n e.
    c.next.ensures.line n c.args.bytes.now []
    (c.in_err-first.was ∙ passed_on c.from_residual.result c.in_err-first.field-0.0 (LedgerFault.Line n) c.from_residual.ensures.1 e)
    c.new-reader.ensures

pub take_lines-requires-clause-next : goal.take_lines-requires-clause-next
take_lines-requires-clause-next c =
    let was = c.in_ok-first.was in
    comes_next c.args.bytes.now [] c.in_ok-first.first c.new-reader.result c.next.new.self c.new-reader.ensures
    (if_ok c.next.result c.in_ok-first.first _ was c.next.ensures.given)
    (if_ok c.next.result c.in_ok-first.first _ was c.next.ensures.fits)
    (if_ok c.next.result c.in_ok-first.first _ was c.next.ensures.end)

pub returns-in_err-take_lines-clause-line : goal.returns-in_err-take_lines-clause-line
returns-in_err-take_lines-clause-line c = λ n e.
    c.take_lines.ensures.line n
    (c.in_err-take_lines.was ∙ passed_on c.from_residual-in_err-take_lines.result c.in_err-take_lines.field-0.0 (LedgerFault.Line n) c.from_residual-in_err-take_lines.ensures.1 e)
