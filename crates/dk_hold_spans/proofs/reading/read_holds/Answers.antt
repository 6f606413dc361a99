use Rattle.std.proofs.Common.{List, ◌∙◌, ◌++◌, [], ◌∷◌, length, ap, refl, subst, sym, arith, rules}
use Rattle.std.specs.Prelude.{reverse}
use Rattle.dk_trace.specs.declared.Entry.{Entry}
use Rattle.dk_ledger.proofs.NextItem.{if_ok}
use Rattle.dk_ledger.proofs.Readings.{some_is}
use Rattle.dk_holds.specs.Holds.{AreHolders}
use Rattle.dk_hold_spans.specs.HoldLists.{ended_holds}
use Rattle.dk_hold_spans.proofs.HoldCounts.{few_holds}
use Rattle.dk_hold_spans.proofs.SoFar.{all_read, entries, entries_more, starts_there, ticks_more}
use Rattle.dk_hold_spans.proofs.reading.read_holds.Goals as goal

pub loop-holds-init : goal.loop-holds-init
loop-holds-init c = record {
  lines = [];
  given = λ j readable text. c.new-reader.ensures.nothing j text;
  low = c.new-reader.ensures.from;
  high = c.new-reader.ensures.to;
  count = refl;
  holders_are = c.new-holders.ensures;
  holds_are = search rules;
}

pub next-requires : goal.next-requires
next-requires c =
    let so_far = c.loop-holds.invariant in
    let ledger = c.requires in
    (ledger.0, ledger.1, so_far.lines, so_far.given ledger.0 ledger.1 ledger.2)

pub push_line-requires : goal.push_line-requires
push_line-requires c =
    let line = c.in-Some.line in
    let fits = some_is c.in_ok-line.field-0 line _ c.in-Some.is (if_ok c.next.result c.in_ok-line.field-0 _ c.in_ok-line.was c.next.ensures.fits) in
    let short = fits.short in
    record { some = fits.some; short = omega (arith, short) }

pub loop-holds-preserved : goal.loop-holds-preserved
loop-holds-preserved c =
    let so_far = c.loop-holds.invariant in
    let ledger = c.requires in
    let line = c.in-Some.line in
    let given = some_is c.in_ok-line.field-0 line _ c.in-Some.is (if_ok c.next.result c.in_ok-line.field-0 _ c.in_ok-line.was c.next.ensures.given) in
    let fits = some_is c.in_ok-line.field-0 line _ c.in-Some.is (if_ok c.next.result c.in_ok-line.field-0 _ c.in_ok-line.was c.next.ensures.fits) in
    let start = starts_there ledger.0 so_far.lines line c.next.new.self ledger.1 (given ledger.0 so_far.lines ledger.1 (so_far.given ledger.0 ledger.1 ledger.2)) (c.next.ensures.from ∙ so_far.low) in
    record {
      lines = so_far.lines ++ line ∷ [];
      given = λ j readable text. given j so_far.lines readable (so_far.given j readable text);
      low = c.next.ensures.from ∙ so_far.low;
      high = c.next.ensures.to ∙ so_far.high;
      count = ticks_more so_far.lines line fits.some start;
      holders_are = subst (λ (es : List Entry). AreHolders (reverse es) c.push_line.new.holders) (sym (entries_more so_far.lines line))
          (c.in_ok-push_line.ensures.holders (entries so_far.lines) start so_far.holders_are);
      holds_are = c.in_ok-push_line.ensures.holds (entries so_far.lines) start so_far.holders_are so_far.holds_are
          ∙ ap (λ (es : List Entry). ended_holds c.args.from (reverse es)) (sym (entries_more so_far.lines line));
    }

pub returns-clause-holds : goal.returns-clause-holds
returns-clause-holds c = λ j readable text.
    let so_far = c.loop-holds.invariant in
    let end = if_ok c.next.result c.in_ok-line.field-0 _ c.in_ok-line.was c.next.ensures.end c.in_default.is j so_far.lines readable (so_far.given j readable text) in
    all_read j so_far.lines c.args.from c.args.to _ _ c.loop-holds.ticks c.loop-holds.holds.items _ end so_far.low so_far.high so_far.count so_far.holds_are
    (c.in_ok-push_open.ensures (reverse (entries so_far.lines)) so_far.holders_are)

pub returns-clause-few : goal.returns-clause-few
returns-clause-few c =
    let so_far = c.loop-holds.invariant in
    let ledger = c.requires in
    let j = ledger.0 in
    let end = if_ok c.next.result c.in_ok-line.field-0 _ c.in_ok-line.was c.next.ensures.end c.in_default.is j so_far.lines ledger.1 (so_far.given j ledger.1 ledger.2) in
    let all = all_read j so_far.lines c.args.from c.args.to _ _ c.loop-holds.ticks c.loop-holds.holds.items _ end so_far.low so_far.high so_far.count so_far.holds_are
    (c.in_ok-push_open.ensures (reverse (entries so_far.lines)) so_far.holders_are) in
    let count = ap length all in
    let few = few_holds c.args.from c.args.to j.entries in
    let short = ledger.1.short in
    omega (arith, count, few, short)
