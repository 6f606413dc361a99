use Rattle.std.proofs.Common.{◌≡◌, ◌≤◌, ◌+◌, ◌++◌, length}
use Rattle.dk_asm.specs.Source.{lines_of}
use Rattle.dk_profile.specs.declared.TheConstants.{MAX_PROFILE_BYTES}
use Rattle.dk_times.specs.Table.{cells_from, cells_of}
use Rattle.dk_times.proofs.table.read_cells.Given as goal

-- what the lines so far say, before those of what is left
abbrev pub invariant-loop-rest : goal.invariant-loop-rest
invariant-loop-rest l = record {
  said : l.cells.items ++ cells_from l.call l.name l.found l.line (lines_of l.rest) ≡ cells_of l.call l.name l.fn.table;
  count : length l.cells.items + 1 ≤ l.line;
  few : l.line + length l.rest ≤ MAX_PROFILE_BYTES + 1;
}

abbrev pub decreases-loop-rest : goal.decreases-loop-rest
decreases-loop-rest l = length l.rest
