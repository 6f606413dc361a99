use Rattle.std.proofs.Common.{◌∙◌, ◌++◌, arith, subst, sym}
use Rattle.dk_ledger.specs.Cuts.{entries_of}
use Rattle.dk_ledger.specs.ReadSoFar.{ComesNext}
use Rattle.dk_ledger.specs.declared.ledger.LedgerFault.{LedgerFault}
use Rattle.dk_ledger.proofs.NextItem.{if_ok}
use Rattle.dk_ledger.proofs.Readings.{passed_on}
use Rattle.dk_report.specs.Counts.{StandsFor}
use Rattle.show_ledger.proofs.Counts.{some_entries}
use Rattle.show_ledger.proofs.counting.count_lines.Goals as goal

pub returns-in_err-next-clause-line : goal.returns-in_err-next-clause-line
returns-in_err-next-clause-line c = λ n e.
    let es = c.loop-next.invariant.counted.0 in
    let comes = subst (λ o. ComesNext c.args.bytes.now es o c.loop-next.reader) c.in-Some.is c.loop-next.invariant.counted.2 in
    c.next.ensures.line n c.args.bytes.now (es ++ entries_of c.in-Some.line)
    (c.in_err-next.was ∙ passed_on c.from_residual.result c.in_err-next.field-0.0 (LedgerFault.Line n) c.from_residual.ensures.1 e) comes.read

pub loop-next-preserved : goal.loop-next-preserved
loop-next-preserved c =
    let es = c.loop-next.invariant.counted.0 in
    let line = c.in-Some.line in
    let all = es ++ entries_of line in
    let comes = subst (λ o. ComesNext c.args.bytes.now es o c.loop-next.reader) c.in-Some.is c.loop-next.invariant.counted.2 in
    let start = comes.start in
    let short = comes.short in
    let some = some_entries es line in
    let ticks = comes.read.ticks in
    let was = c.in_ok-next.was in
    record {
      counted = (
        all,
        subst (λ more. StandsFor c.add_stretch.new.self (es ++ more)) (sym c.last.ensures)
            (c.add_stretch.ensures.after es c.loop-next.invariant.counted.1 (omega (arith, start, short))),
        if_ok c.next.result c.in_ok-next.next _ was c.next.ensures.comes c.args.bytes.now all comes.read,
      );
      heading = if_ok c.next.result c.in_ok-next.next _ was c.next.ensures.heading (omega (arith, some, ticks)) ∙ c.loop-next.invariant.heading;
      levels = c.add_stretch.ensures.levels ∙ c.loop-next.invariant.levels;
      processes = c.add_stretch.ensures.processes ∙ c.loop-next.invariant.processes;
    }
