use Rattle.std.proofs.Common.{◌∙◌, ◌++◌, reverse, arith, subst, sym}
use Rattle.dk_ledger.specs.Cuts.{entries_of}
use Rattle.dk_ledger.specs.declared.ledger.LedgerFault.{LedgerFault}
use Rattle.dk_window_report.specs.Rows.{IsKeptOf}
use Rattle.dk_window_report.specs.Report.{ComesNext}
use Rattle.dk_ledger.proofs.NextItem.{if_ok}
use Rattle.dk_ledger.proofs.Readings.{passed_on}
use Rattle.dk_window_report.proofs.Reading.{comes_next, some_entries}
use Rattle.dk_window_report.proofs.report.take_lines.Goals as goal

pub returns-in_err-next-clause-line : goal.returns-in_err-next-clause-line
returns-in_err-next-clause-line c = λ n e.
    let es = c.loop-next.invariant.kept.0 in
    let comes = subst (λ o. ComesNext c.args.bytes.now es o c.loop-next.reader) c.in-Some.is c.loop-next.invariant.kept.2 in
    c.next.ensures.line n c.args.bytes.now (es ++ entries_of c.in-Some.line)
    (c.in_err-next.was ∙ passed_on c.from_residual-in_err-next.result c.in_err-next.field-0.0 (LedgerFault.Line n) c.from_residual-in_err-next.ensures.1 e) comes.0

pub loop-next-preserved : goal.loop-next-preserved
loop-next-preserved c =
    let es = c.loop-next.invariant.kept.0 in
    let line = c.in-Some.line in
    let all = es ++ entries_of line in
    let comes = subst (λ o. ComesNext c.args.bytes.now es o c.loop-next.reader) c.in-Some.is c.loop-next.invariant.kept.2 in
    let some = some_entries es line in
    let ticks = comes.0.ticks in
    let was = c.in_ok-next.was in
    let same = if_ok c.next.result c.in_ok-next.next _ was c.next.ensures.heading (omega (arith, some, ticks)) in
    record {
      kept = (
        all,
        subst (λ h. IsKeptOf h (reverse all) c.add_line.new.self.kept) (c.header.ensures ∙ sym same)
            (c.in_ok-add_line.ensures.after es (subst (λ h. IsKeptOf h (reverse es) c.loop-next.table.kept) (sym c.header.ensures) c.loop-next.invariant.kept.1)),
        comes_next c.args.bytes.now all c.in_ok-next.next c.loop-next.reader c.next.new.self comes.0
            (if_ok c.next.result c.in_ok-next.next _ was c.next.ensures.given)
            (if_ok c.next.result c.in_ok-next.next _ was c.next.ensures.fits)
            (if_ok c.next.result c.in_ok-next.next _ was c.next.ensures.end),
      );
      placed = c.in_ok-add_line.ensures.placed;
      heading = same ∙ c.loop-next.invariant.heading;
    }
