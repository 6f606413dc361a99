use Rattle.std.proofs.Common.{◌∙◌, ◌++◌, List, arith, reverse, subst, sym}
use Rattle.std.proofs.lemmas.List.{length-append, length-reverse}
use Rattle.dk_ledger.specs.Cuts.{entries_of}
use Rattle.dk_ledger.specs.Heading.{Heading}
use Rattle.dk_ledger.specs.ReadSoFar.{ComesNext}
use Rattle.dk_ledger.specs.declared.ledger.LedgerFault.{LedgerFault}
use Rattle.dk_ledger.proofs.NextItem.{if_ok}
use Rattle.dk_ledger.proofs.Readings.{passed_on}
use Rattle.dk_window_report.proofs.Reading.{some_entries}
use Rattle.show_ledger.specs.declared.told.Told.{Told}
use Rattle.show_ledger.specs.Told.{AreTold, AreUpTo}
use Rattle.show_ledger.proofs.Placing.{length-line, told-behind, told-up-to}
use Rattle.show_ledger.proofs.tenths.take_lines.Goals as goal

pub take_line-requires-clause-early : goal.take_line-requires-clause-early
take_line-requires-clause-early c =
    let told = c.loop-next.invariant.told in
    let es = told.0 in
    let comes = subst (λ o. ComesNext c.args.bytes.now es o c.loop-next.reader) c.in-Some.is told.3 in
    let all = told-up-to c.loop-next.reader.kept.heading (reverse es) 0 c.loop-next.mains.items told.1.each in
    subst (λ n. AreUpTo n c.loop-next.mains.items) (length-reverse es ∙ sym comes.start) all

pub returns-in_err-next-clause-line : goal.returns-in_err-next-clause-line
returns-in_err-next-clause-line c = λ n e.
    let told = c.loop-next.invariant.told in
    let es = told.0 in
    let comes = subst (λ o. ComesNext c.args.bytes.now es o c.loop-next.reader) c.in-Some.is told.3 in
    c.next.ensures.line n c.args.bytes.now (es ++ entries_of c.in-Some.line)
    (c.in_err-next.was ∙ passed_on c.from_residual.result c.in_err-next.field-0.0 (LedgerFault.Line n) c.from_residual.ensures.1 e) comes.read

pub loop-next-preserved : goal.loop-next-preserved
loop-next-preserved c =
    let told = c.loop-next.invariant.told in
    let es = told.0 in
    let line = c.in-Some.line in
    let h = c.loop-next.reader.kept.heading in
    let ts = c.loop-next.mains.items in
    let all = es ++ entries_of line in
    let comes = subst (λ o. ComesNext c.args.bytes.now es o c.loop-next.reader) c.in-Some.is told.3 in
    let start = comes.start in
    let count = comes.count in
    let short = comes.short in
    let size = length-reverse es in
    let own = length-line line count in
    let both = length-append es (entries_of line) in
    let some = some_entries es line in
    let ticks = comes.read.ticks in
    let was = c.in_ok-next.was in
    let same = if_ok c.next.result c.in_ok-next.next _ was c.next.ensures.heading (omega (arith, some, ticks)) in
    let behind = told-behind h es line ts (omega (arith, start, size)) count (omega (arith, start, short, size)) told.1 in
    let more = subst (λ (us : List Told). AreTold h (reverse all) us) (sym c.take_line.ensures) behind in
    record {
      told = (
        all,
        subst (λ (g : Heading). AreTold g (reverse all) c.take_line.new.mains.items) (sym same) more,
        omega (arith, start, own, both),
        if_ok c.next.result c.in_ok-next.next _ was c.next.ensures.comes c.args.bytes.now all comes.read,
      );
      heading = same ∙ c.loop-next.invariant.heading;
    }
