use Rattle.std.proofs.Common.{◌∙◌, ap}
use Rattle.std.specs.Prelude.{◌++◌}
use Rattle.dk_ledger.specs.Heading.{header_text}
use Rattle.dk_ledger.specs.declared.ledger.LedgerFault.{LedgerFault}
use Rattle.dk_ledger.proofs.Readings.{passed_on}
use Rattle.show_ledger.proofs.Counts.{counted_text}
use Rattle.show_ledger.proofs.texts.report_texts.Goals as goal

pub returns-in_err-counted-clause-line : goal.returns-in_err-counted-clause-line
returns-in_err-counted-clause-line c = λ n e.
    c.counted_of.ensures.line n (c.in_err-counted.was ∙ passed_on c.from_residual.result c.in_err-counted.field-0.0 (LedgerFault.Line n) c.from_residual.ensures.1 e)

pub returns-clause-told : goal.returns-clause-told
returns-clause-told c =
    let counted = c.in_ok-counted.ensures.counted in
    let h = c.in_ok-counted.counted.header in
    let all = counted.counted in
    let same = counted_text h c.in_ok-counted.counted.totals all.0 all.2 counted.levels counted.processes in
    let totals = c.in_ok-totals.ensures ∙ same in (
      record { heading = h; entries = all.0 },
      all.1.readable,
      all.1.text,
      c.in_ok-report.ensures ∙ ap (λ t. t ++ c.as_slice.result.now) c.in_ok-header.ensures ∙ ap (λ t. header_text h ++ t) (c.as_slice.ensures.value ∙ totals),
      totals,
    )
