use Rattle.std.proofs.Common.{◌≡◌, ◌+◌, [], length, reverse, take}
use Rattle.std.specs.Option.{option_map_or}
use Rattle.dk_ledger.specs.Readable.{Journal, IsReadable}
use Rattle.dk_groups.specs.Cutting.{ComesNext, IsGoingOn}
use Rattle.dk_holds.specs.Holds.{AreHolders}
use Rattle.dk_overrun_spans.specs.Marks.{AreMarks}
use Rattle.dk_overrun_spans.specs.Overruns.{overruns}
use Rattle.dk_vcd.proofs.Passing.{HasWritten}
use Rattle.dk_vcd.proofs.writing.write_groups.Given as goal

abbrev pub invariant-loop-next : goal.invariant-loop-next
invariant-loop-next g l = record {
  going_on : IsGoingOn l.next l.reader;
  written : (j : Journal) → IsReadable j → ComesNext j [] l.fn.first l.fn.reader → AreHolders (reverse (take l.fn.reader.from j.entries)) l.fn.holders → AreMarks (overruns j.heading j.entries) l.marks
      → HasWritten j l.fn.reader.from l.before l.next l.reader l.holders (g.S.Sink.seen l.fn.sink) (g.S.Sink.seen l.sink);
  from : l.reader.from ≡ l.fn.reader.from;
  to : l.reader.to ≡ l.fn.reader.to;
}

abbrev pub decreases-loop-next : goal.decreases-loop-next
decreases-loop-next g l = option_map_or (λ _. 1 + length l.reader.reading.rest) l.next 0
