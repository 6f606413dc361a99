use Rattle.std.proofs.Common.{◌≡◌, ◌++◌, drop, map}
use Rattle.csv.specs.Writing.{default_writer, fields_text}
use Rattle.show_rows.specs.Rows.{cell_text}
use Rattle.show_rows.proofs.row.add_cells.Given as goal

-- the fields so far, before those of the cells that are left
abbrev pub invariant-loop-cell : goal.invariant-loop-cell
invariant-loop-cell l =
    l.out.items ++ fields_text default_writer (map cell_text (drop l.cell-index l.cells)) ≡ l.initial.out.items ++ fields_text default_writer (map cell_text l.cells)
