use Rattle.dk_audit.proofs.Names.{◌≡◌, map, take, line_of_row}
use Rattle.dk_audit.proofs.heading.are_lines_of.Given as goal

abbrev pub invariant-loop-index : goal.invariant-loop-index
invariant-loop-index l = take l.index l.lines ≡ take l.index (map line_of_row l.processes)
