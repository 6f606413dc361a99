use Rattle.std.proofs.Common.{◌≡◌, ◌++◌, drop, flat_map, map}
use Rattle.dk_html.specs.Tables.{cell}
use Rattle.dk_html.proofs.tables.add_cells.Given as goal

-- the cells so far, before those of the fields that are left
abbrev pub invariant-loop-field : goal.invariant-loop-field
invariant-loop-field l =
    l.out.items ++ flat_map cell (map (λ f. f.now) (drop l.field-index l.fields)) ≡ l.initial.out.items ++ flat_map cell (map (λ f. f.now) l.fields)
