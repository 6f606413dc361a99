use Rattle.dk_picture.proofs.Names.{◌≡◌, ◌++◌, drop, flat_map, string_bytes, group_label}
use Rattle.dk_picture.proofs.labels.add_group_labels.Given as goal

-- the words at the bars so far, before those of the groups that are left
abbrev pub invariant-loop-group : goal.invariant-loop-group
invariant-loop-group l = string_bytes l.text ++ flat_map (λ g. group_label l.frame l.span l.rows g g.label) (drop l.group-index l.groups) ≡ string_bytes l.initial.text ++ flat_map (λ g. group_label l.frame l.span l.rows g g.label) l.groups
