use Rattle.dk_picture.proofs.Names.{◌≡◌, ◌∷◌, flat_map, below, level_rows}
use Rattle.dk_picture.specs.declared.rows.Row.TheVariants as row
use Rattle.dk_picture.proofs.row_list.row_list.Given as goal

abbrev pub invariant-loop-level : goal.invariant-loop-level
invariant-loop-level l = l.rows.items ≡ row.Kernel ∷ flat_map (level_rows l.header l.groups) (below l.level)
