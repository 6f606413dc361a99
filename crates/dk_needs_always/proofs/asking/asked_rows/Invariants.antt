use Rattle.std.proofs.Common.{◌≡◌, map, take}
use Rattle.dk_needs_always.specs.Asking.{asked_row}
use Rattle.dk_needs_always.proofs.asking.asked_rows.Given as goal

-- the rows so far, with what they ask
abbrev pub invariant-loop-row : goal.invariant-loop-row
invariant-loop-row l = l.found.items ≡ map (asked_row l.config l.needs) (take l.row-index l.rows)
