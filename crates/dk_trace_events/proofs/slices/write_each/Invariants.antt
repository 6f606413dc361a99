use Rattle.std.proofs.Common.{List, ◌≡◌, ◌+◌, [], length}
use Rattle.std.specs.Option.{option_map_or}
use Rattle.dk_ledger.specs.declared.line.LedgerLine.{LedgerLine}
use Rattle.dk_ledger.specs.Readable.{Journal, IsReadable}
use Rattle.dk_groups.specs.Cutting.{ComesNext}
use Rattle.dk_groups.proofs.Going.{HasWritten}
use Rattle.dk_trace_events.specs.SlackPoints.{slack_in}
use Rattle.dk_trace_events.specs.Traces.{objects_text}
use Rattle.dk_trace_events.proofs.slices.write_each.Given as goal

abbrev pub invariant-loop-next : goal.invariant-loop-next
invariant-loop-next g l = record {
  -- some ledger is being gone through
  going_on : (j : Journal) × IsReadable j × (gs : List LedgerLine) × ComesNext j gs l.next l.reader × (l.used ≡ slack_in gs);
  written : (j : Journal) → IsReadable j → ComesNext j [] l.fn.first l.fn.reader
      → (w : HasWritten j (λ gs. objects_text j.heading gs) l.next l.reader (g.S.Sink.seen l.fn.sink) (g.S.Sink.seen l.sink)) × (l.used ≡ slack_in w.groups);
  faults : (g.S.Sink.seen l.sink).faults ≡ (g.S.Sink.seen l.fn.sink).faults;
  capacity : (g.S.Sink.seen l.sink).capacity ≡ (g.S.Sink.seen l.fn.sink).capacity;
  from : l.reader.from ≡ l.fn.reader.from;
  to : l.reader.to ≡ l.fn.reader.to;
}

abbrev pub decreases-loop-next : goal.decreases-loop-next
decreases-loop-next g l = option_map_or (λ _. 1 + length l.reader.reading.rest) l.next 0
