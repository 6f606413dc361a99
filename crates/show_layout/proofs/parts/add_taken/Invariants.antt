use Rattle.std.proofs.Common.{◌≡◌, ◌≤◌, ◌++◌, length, map}
use Rattle.dk_config.specs.Sums.{below}
use Rattle.show_rows.specs.Rows.{cell_text}
use Rattle.show_layout.specs.Matrix.{taken}
use Rattle.show_layout.proofs.parts.add_taken.Given as goal

-- the cells of the levels so far are added
abbrev pub invariant-loop-level : goal.invariant-loop-level
invariant-loop-level l =
    (map cell_text l.cells.items ≡ map cell_text l.initial.cells.items ++ map (taken l.layout l.part) (below l.level))
    × (length l.initial.cells.items ≤ length l.cells.items)
