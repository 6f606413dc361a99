use Rattle.std.proofs.Common.{◌∙◌, [], List, ap, reverse, subst, sym}
use Rattle.std.proofs.lemmas.List.{length-reverse}
use Rattle.dk_ledger.specs.Heading.{Heading}
use Rattle.dk_ledger.specs.declared.ledger.LedgerFault.{LedgerFault}
use Rattle.dk_ledger.proofs.Readings.{passed_on}
use Rattle.show_ledger.specs.declared.told.Told.{Told}
use Rattle.show_ledger.specs.TenthsTable.{tenths_csv}
use Rattle.show_ledger.specs.Told.{AreTold}
use Rattle.show_ledger.proofs.tenths.tenths_csv.Goals as goal

pub returns-in_err-first-clause-line : goal.returns-in_err-first-clause-line
returns-in_err-first-clause-line c = λ n e.
    c.next.ensures.line n c.args.bytes.now []
    (c.in_err-first.was ∙ passed_on c.from_residual.result c.in_err-first.field-0.0 (LedgerFault.Line n) c.from_residual.ensures.1 e)
    c.new-reader.ensures

pub returns-in_err-ticks-clause-line : goal.returns-in_err-ticks-clause-line
returns-in_err-ticks-clause-line c = λ n e.
    c.take_lines.ensures.line n
    (c.in_err-ticks.was ∙ passed_on c.from_residual-in_err-ticks.result c.in_err-ticks.field-0.0 (LedgerFault.Line n) c.from_residual-in_err-ticks.ensures.1 e)

pub returns-clause-told : goal.returns-clause-told
returns-clause-told c =
    let (es, all, are, ticks) = c.in_ok-ticks.ensures.told in
    let h = c.take_lines.new.reader.kept.heading in
    let mains = c.as_slice.ensures.value in
    let here : AreTold c.header-2.result.now (reverse es) c.as_slice.result.now =
    subst (λ (ts : List Told). AreTold c.header-2.result.now (reverse es) ts) (sym mains)
    (subst (λ (g : Heading). AreTold g (reverse es) c.take_lines.new.mains.items) (sym c.header-2.ensures) are) in (
      record { heading = h; entries = es },
      all.readable,
      all.text,
      c.in_ok-text.ensures (reverse es) here (ticks ∙ sym (length-reverse es)) ∙ ap (λ (g : Heading). tenths_csv g (reverse es)) c.header-2.ensures,
    )
