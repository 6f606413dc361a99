use Rattle.std.proofs.Common.{◌≡◌, map, take}
use Rattle.dk_needs_always.specs.Telling.{kept_row}
use Rattle.dk_needs_always.proofs.telling.kept_rows.Given as goal

-- the rows so far
abbrev pub invariant-loop-row : goal.invariant-loop-row
invariant-loop-row l = l.rows.items ≡ map (kept_row l.kept) (take l.row-index l.before)
