use Rattle.std.proofs.Common.{◌≡◌, map, take}
use Rattle.dk_needs_always.specs.Telling.{decided_row}
use Rattle.dk_needs_always.proofs.telling.decided_rows.Given as goal

-- the rows so far, decided
abbrev pub invariant-loop-row : goal.invariant-loop-row
invariant-loop-row l = l.rows.items ≡ map (decided_row l.always) (take l.row-index l.asked)
