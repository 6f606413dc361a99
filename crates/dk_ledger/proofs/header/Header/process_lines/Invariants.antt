use Rattle.dk_ledger.proofs.Names.{◌≡◌, take, map, line_of_row}
use Rattle.dk_ledger.proofs.header.Header.process_lines.Given as goal

abbrev pub invariant-loop-row : goal.invariant-loop-row
invariant-loop-row l = l.lines.items ≡ map line_of_row (take l.row-index l.rows)
