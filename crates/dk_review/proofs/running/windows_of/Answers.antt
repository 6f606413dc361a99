use Rattle.std.proofs.Common.{◌∙◌}
use Rattle.std.specs.Prelude.{reverse}
use Rattle.dk_ledger.specs.Readable.{Journal}
use Rattle.dk_ledger.specs.declared.ledger.LedgerFault.{LedgerFault}
use Rattle.dk_ledger.proofs.Readings.{passed_on}
use Rattle.dk_review.proofs.running.windows_of.Goals as goal

pub returns-clause-told : goal.returns-clause-told
returns-clause-told c =
    let report = c.in_ok-report.report in
    let all = c.in_ok-report.ensures.kept in
    let es = all.0 in
    let read = all.1 in
    let j : Journal = record { heading = report.heading; entries = es } in
    (j, read.readable, read.text, c.in_ok-table.ensures (reverse es) all.2)

pub returns-in_err-report-clause-line : goal.returns-in_err-report-clause-line
returns-in_err-report-clause-line c = λ n e.
    c.of.ensures.line n (c.in_err-report.was ∙ passed_on c.from_residual.result c.in_err-report.field-0.0 (LedgerFault.Line n) c.from_residual.ensures.1 e)
