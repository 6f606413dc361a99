use Rattle.dk_document_report.specs.Expressions.{AreCut}
use Rattle.dk_document_report.proofs.marks.ends_of_expressions.Given as goal

-- what is cut before this byte
abbrev pub invariant-loop-at : goal.invariant-loop-at
invariant-loop-at l = AreCut l.bytes l.at l.cuts
