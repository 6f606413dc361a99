use Rattle.dk_asm.proofs.Imports.{take, value_by, seen_lines, IsCode}
use Rattle.dk_asm.proofs.encoding.code_of.Given as goal

abbrev pub invariant-loop-line : goal.invariant-loop-line
invariant-loop-line l = IsCode (value_by l.labels.places) (take l.line-index (seen_lines l.lines)) l.code.items
