use Rattle.std.specs.Prelude.{◌≡◌, take}
use Rattle.show_impact.proofs.copies.processes_of.Given as goal

abbrev pub invariant-loop-row : goal.invariant-loop-row
invariant-loop-row l = l.copies.items ≡ take l.row-index l.rows
