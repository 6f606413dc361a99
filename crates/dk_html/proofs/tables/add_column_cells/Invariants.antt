use Rattle.std.proofs.Common.{◌≡◌, ◌++◌, drop, flat_map, map}
use Rattle.dk_html.specs.Tables.{column_cell}
use Rattle.dk_html.proofs.tables.add_column_cells.Given as goal

-- the cells so far, before those of the names that are left
abbrev pub invariant-loop-name : goal.invariant-loop-name
invariant-loop-name l =
    l.out.items ++ flat_map column_cell (map (λ f. f.now) (drop l.name-index l.names)) ≡ l.initial.out.items ++ flat_map column_cell (map (λ f. f.now) l.names)
