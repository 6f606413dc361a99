use Rattle.std.proofs.Common.{◌∙◌, ◌++◌, [], ◌∷◌, sym, subst, arith}
use Rattle.std.specs.Prelude.{List, reverse}
use Rattle.dk_trace.specs.declared.Entry.{Entry}
use Rattle.dk_ledger.proofs.NextItem.{if_ok}
use Rattle.dk_ledger.proofs.Readings.{some_is}
use Rattle.dk_holds.specs.Holds.{AreHolders}
use Rattle.dk_hold_spans.proofs.SoFar.{all_held, entries, entries_more, starts_there}
use Rattle.dk_hold_spans.proofs.reading.read_holders.Goals as goal

pub loop-reader-init : goal.loop-reader-init
loop-reader-init c = record {
  lines = [];
  given = λ j readable text. c.new-reader.ensures.nothing j text;
  low = c.new-reader.ensures.from;
  high = c.new-reader.ensures.to;
  holders_are = c.new-holders.ensures;
}

pub next-requires : goal.next-requires
next-requires c =
    let so_far = c.loop-reader.invariant in
    let ledger = c.requires in
    (ledger.0, ledger.1, so_far.lines, so_far.given ledger.0 ledger.1 ledger.2)

pub step-requires : goal.step-requires
step-requires c =
    let line = c.in-Some.line in
    let fits = some_is c.in_ok-line.field-0 line _ c.in-Some.is (if_ok c.next.result c.in_ok-line.field-0 _ c.in_ok-line.was c.next.ensures.fits) in
    let short = fits.short in
    record { some = fits.some; short = omega (arith, short) }

pub loop-reader-preserved : goal.loop-reader-preserved
loop-reader-preserved c =
    let so_far = c.loop-reader.invariant in
    let ledger = c.requires in
    let line = c.in-Some.line in
    let given = some_is c.in_ok-line.field-0 line _ c.in-Some.is (if_ok c.next.result c.in_ok-line.field-0 _ c.in_ok-line.was c.next.ensures.given) in
    let start = starts_there ledger.0 so_far.lines line c.next.new.self ledger.1 (given ledger.0 so_far.lines ledger.1 (so_far.given ledger.0 ledger.1 ledger.2)) (c.next.ensures.from ∙ so_far.low) in
    record {
      lines = so_far.lines ++ line ∷ [];
      given = λ j readable text. given j so_far.lines readable (so_far.given j readable text);
      low = c.next.ensures.from ∙ so_far.low;
      high = c.next.ensures.to ∙ so_far.high;
      holders_are = subst (λ (es : List Entry). AreHolders (reverse es) c.step.new.self) (sym (entries_more so_far.lines line))
          (c.step.ensures (entries so_far.lines) start so_far.holders_are);
    }

pub returns : goal.returns
returns c = λ j readable text.
    let so_far = c.loop-reader.invariant in
    let end = if_ok c.next.result c.in_ok-line.field-0 _ c.in_ok-line.was c.next.ensures.end c.in_default.is j so_far.lines readable (so_far.given j readable text) in
    all_held j so_far.lines c.args.tick _ _ c.loop-reader.holders end so_far.low so_far.high so_far.holders_are
