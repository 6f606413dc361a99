use Rattle.std.proofs.Common.{ℕ, ◌≡◌, ◌≤◌, ◌<◌, true}
use Rattle.std.specs.Prelude.{slice_index}
use Rattle.dk_document_report.specs.Standing.{is_blank}
use Rattle.dk_document_report.proofs.places.first_word.Given as goal

-- all are blank so far
abbrev pub invariant-loop-i : goal.invariant-loop-i
invariant-loop-i l = (k : ℕ) → l.piece.start ≤ k → k < l.i → is_blank (slice_index l.bytes k) ≡ true
