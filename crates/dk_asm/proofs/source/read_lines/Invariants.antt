use Rattle.dk_asm.proofs.Imports.{◌≡◌, ◌++◌, map, length, read_line, seen_lines, lines_of}
use Rattle.dk_asm.proofs.source.read_lines.Given as goal

abbrev pub invariant-loop-rest : goal.invariant-loop-rest
invariant-loop-rest l = seen_lines l.lines.items ++ map read_line (lines_of l.rest) ≡ map read_line (lines_of l.fn.text)

abbrev pub decreases-loop-rest : goal.decreases-loop-rest
decreases-loop-rest l = length l.rest
