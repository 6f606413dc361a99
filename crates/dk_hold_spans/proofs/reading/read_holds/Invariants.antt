use Rattle.std.proofs.Common.{length}
use Rattle.dk_hold_spans.proofs.SoFar.{IsSoFar}
use Rattle.dk_hold_spans.proofs.reading.read_holds.Given as goal

abbrev pub invariant-loop-holds : goal.invariant-loop-holds
invariant-loop-holds l = IsSoFar l.fn.bytes l.fn.from l.fn.to l.reader l.holders l.holds.items l.ticks

abbrev pub decreases-loop-holds : goal.decreases-loop-holds
decreases-loop-holds l = length l.reader.reading.rest
