use Rattle.dk_picture.proofs.Names.{◌≡◌, ◌++◌, drop, flat_map, string_bytes, edge_of}
use Rattle.dk_picture.proofs.edges.add_each_edge.Given as goal

-- the lines so far, before those of the groups that are left
abbrev pub invariant-loop-group : goal.invariant-loop-group
invariant-loop-group l = string_bytes l.text ++ flat_map (edge_of l.frame l.span l.rows) (drop l.group-index l.groups) ≡ string_bytes l.initial.text ++ flat_map (edge_of l.frame l.span l.rows) l.groups
