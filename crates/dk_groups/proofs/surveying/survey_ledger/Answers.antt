use Rattle.std.proofs.Common.{◌∙◌, ◌++◌, sym, arith, length-append}
use Rattle.dk_ledger.specs.declared.ledger.LedgerFault.{LedgerFault as Fault}
use Rattle.dk_ledger.specs.Cuts.{entries_of}
use Rattle.dk_ledger.specs.ReadSoFar.{HasReadAll}
use Rattle.std.proofs.Common.{subst}
use Rattle.dk_ledger.proofs.EntryLists.{length-entries}
use Rattle.dk_ledger.proofs.NextItem.{if_ok}
use Rattle.dk_ledger.proofs.Readings.{passed_on, some_is}
use Rattle.dk_groups.proofs.surveying.survey_ledger.Goals as goal

pub returns-in_err-line-clause-line : goal.returns-in_err-line-clause-line
returns-in_err-line-clause-line c = λ n e.
    c.next.ensures.line n c.args.bytes.now c.loop-reader.invariant.entries
    (c.in_err-line.was ∙ passed_on c.from_residual.result c.in_err-line.field-0.0 (Fault.Line n) c.from_residual.ensures.1 e)
    c.loop-reader.invariant.read

pub loop-reader-preserved : goal.loop-reader-preserved
loop-reader-preserved c =
    let es = c.loop-reader.invariant.entries in
    let line = c.in-Some.line in
    let given = some_is c.in_ok-line.field-0 line _ c.in-Some.is (if_ok c.next.result c.in_ok-line.field-0 _ c.in_ok-line.was c.next.ensures.given) in
    let fits = some_is c.in_ok-line.field-0 line _ c.in-Some.is (if_ok c.next.result c.in_ok-line.field-0 _ c.in_ok-line.was c.next.ensures.fits) in
    let own = length-entries line fits.count in
    let all = length-append es (entries_of line) in
    let ticks = c.loop-reader.invariant.ticks in
    record {
      entries = es ++ entries_of line;
      read = given c.args.bytes.now es c.loop-reader.invariant.read;
      ticks = omega (arith, own, all, ticks);
    }

pub returns-clause-ok : goal.returns-clause-ok
returns-clause-ok c =
    let es = c.loop-reader.invariant.entries in (
      es,
      subst (HasReadAll c.args.bytes.now es) (sym c.into_header.ensures)
          (if_ok c.next.result c.in_ok-line.field-0 _ c.in_ok-line.was c.next.ensures.end c.in_default.is c.args.bytes.now es c.loop-reader.invariant.read),
      c.loop-reader.invariant.ticks,
    )
