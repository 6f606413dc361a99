use Rattle.dk_show.proofs.Names.{◌≡◌}
use Rattle.std.specs.Prelude.{◌++◌, drop}
use Rattle.dk_show.specs.Slacks.{ticks_by}
use Rattle.dk_show.proofs.slacks.ticks_by.Given as goal

-- the numbers so far, before those of the rows that are left
abbrev pub invariant-loop-row : goal.invariant-loop-row
invariant-loop-row l = l.ticks.items ++ ticks_by (drop l.row-index l.rows) l.allotments ≡ ticks_by l.rows l.allotments
