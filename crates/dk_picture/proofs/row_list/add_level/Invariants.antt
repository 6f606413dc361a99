use Rattle.dk_picture.proofs.Names.{◌≡◌, ◌++◌, flat_map, below, rows_at_level}
use Rattle.dk_picture.proofs.row_list.add_level.Given as goal

abbrev pub invariant-loop-process : goal.invariant-loop-process
invariant-loop-process l = l.rows.items ≡ l.initial.rows.items ++ flat_map (rows_at_level l.header l.groups l.level) (below l.process)
