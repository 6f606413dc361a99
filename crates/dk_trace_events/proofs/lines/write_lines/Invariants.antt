use Rattle.std.proofs.Common.{List, ◌≡◌, ◌+◌, [], length}
use Rattle.std.specs.Option.{option_map_or}
use Rattle.dk_ledger.specs.declared.line.LedgerLine.{LedgerLine}
use Rattle.dk_ledger.specs.Readable.{Journal, IsReadable}
use Rattle.dk_groups.specs.Cutting.{ComesNext}
use Rattle.dk_groups.proofs.Going.{HasWritten}
use Rattle.dk_holds.specs.Holds.{AreHolders}
use Rattle.dk_trace_events.specs.Behind.{lines_text, past_of}
use Rattle.dk_trace_events.proofs.lines.write_lines.Given as goal

abbrev pub invariant-loop-next : goal.invariant-loop-next
invariant-loop-next g l = record {
  -- some ledger of this header is being gone through
  going_on : (j : Journal) × IsReadable j × (j.heading ≡ l.header) × (ls : List LedgerLine) × ComesNext j ls l.next l.reader × AreHolders (past_of ls) l.holders;
  written : (j : Journal) → IsReadable j → ComesNext j [] l.fn.first l.fn.reader
      → (w : HasWritten j (λ ls. lines_text l.header l.from ls) l.next l.reader (g.S.Sink.seen l.fn.sink) (g.S.Sink.seen l.sink)) × AreHolders (past_of w.groups) l.holders;
  faults : (g.S.Sink.seen l.sink).faults ≡ (g.S.Sink.seen l.fn.sink).faults;
  capacity : (g.S.Sink.seen l.sink).capacity ≡ (g.S.Sink.seen l.fn.sink).capacity;
  from : l.reader.from ≡ l.fn.reader.from;
  to : l.reader.to ≡ l.fn.reader.to;
}

abbrev pub decreases-loop-next : goal.decreases-loop-next
decreases-loop-next g l = option_map_or (λ _. 1 + length l.reader.reading.rest) l.next 0
