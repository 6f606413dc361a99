use Rattle.std.proofs.Common.{length}
use Rattle.dk_hold_spans.proofs.SoFar.{AreHeld}
use Rattle.dk_hold_spans.proofs.reading.read_holders.Given as goal

abbrev pub invariant-loop-reader : goal.invariant-loop-reader
invariant-loop-reader l = AreHeld l.fn.bytes l.fn.tick l.reader l.holders

abbrev pub decreases-loop-reader : goal.decreases-loop-reader
decreases-loop-reader l = length l.reader.reading.rest
