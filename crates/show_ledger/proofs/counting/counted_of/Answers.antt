use Rattle.std.proofs.Common.{◌∙◌, []}
use Rattle.dk_ledger.specs.declared.ledger.LedgerFault.{LedgerFault}
use Rattle.dk_ledger.proofs.NextItem.{if_ok}
use Rattle.dk_ledger.proofs.Readings.{passed_on}
use Rattle.show_ledger.proofs.counting.counted_of.Goals as goal

pub returns-in_err-first-clause-line : goal.returns-in_err-first-clause-line
returns-in_err-first-clause-line c = λ n e.
    c.next.ensures.line n c.args.bytes.now []
    (c.in_err-first.was ∙ passed_on c.from_residual.result c.in_err-first.field-0.0 (LedgerFault.Line n) c.from_residual.ensures.1 e)
    c.new-reader.ensures

pub count_lines-requires-clause-next : goal.count_lines-requires-clause-next
count_lines-requires-clause-next c =
    if_ok c.next.result c.in_ok-first.first _ c.in_ok-first.was c.next.ensures.comes c.args.bytes.now [] c.new-reader.ensures

pub returns-in_err-count_lines-clause-line : goal.returns-in_err-count_lines-clause-line
returns-in_err-count_lines-clause-line c = λ n e.
    c.count_lines.ensures.line n
    (c.in_err-count_lines.was ∙ passed_on c.from_residual-in_err-count_lines.result c.in_err-count_lines.field-0.0 (LedgerFault.Line n) c.from_residual-in_err-count_lines.ensures.1 e)
