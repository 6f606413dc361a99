use Rattle.dk_document_report.proofs.Counting.{CountedSoFar}
use Rattle.dk_document_report.proofs.place.place_after.Given as goal

abbrev pub invariant-loop-byte : goal.invariant-loop-byte
invariant-loop-byte l = CountedSoFar (record { line = 1; column = 1 }) l.before l.byte-index l.place
