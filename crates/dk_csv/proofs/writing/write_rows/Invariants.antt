use Rattle.std.proofs.Common.{◌≡◌, ◌+◌, [], length}
use Rattle.std.specs.Option.{option_map_or}
use Rattle.dk_ledger.specs.Readable.{Journal, IsReadable}
use Rattle.dk_groups.specs.Cutting.{ComesNext, IsGoingOn}
use Rattle.dk_groups.proofs.Going.{HasWritten}
use Rattle.dk_overrun_spans.specs.Marks.{AreMarks}
use Rattle.dk_overrun_spans.specs.Overruns.{overruns}
use Rattle.dk_csv.specs.Rows.{rows_text}
use Rattle.dk_csv.proofs.writing.write_rows.Given as goal

abbrev pub invariant-loop-next : goal.invariant-loop-next
invariant-loop-next g l = record {
  going_on : IsGoingOn l.next l.reader;
  written : (j : Journal) → IsReadable j → ComesNext j [] l.fn.first l.fn.reader → AreMarks (overruns j.heading j.entries) l.marks
      → HasWritten j (λ gs. rows_text j.heading (overruns j.heading j.entries) gs) l.next l.reader (g.S.Sink.seen l.fn.sink) (g.S.Sink.seen l.sink);
  faults : (g.S.Sink.seen l.sink).faults ≡ (g.S.Sink.seen l.fn.sink).faults;
  capacity : (g.S.Sink.seen l.sink).capacity ≡ (g.S.Sink.seen l.fn.sink).capacity;
  from : l.reader.from ≡ l.fn.reader.from;
  to : l.reader.to ≡ l.fn.reader.to;
}

abbrev pub decreases-loop-next : goal.decreases-loop-next
decreases-loop-next g l = option_map_or (λ _. 1 + length l.reader.reading.rest) l.next 0
