use Rattle.dk_picture.proofs.Names.{◌≡◌, ◌++◌, drop, flat_map, string_bytes, mark_text, marks_of}
use Rattle.dk_picture.proofs.marks.add_each.Given as goal

-- the marks so far, before those of the groups that are left
abbrev pub invariant-loop-group : goal.invariant-loop-group
invariant-loop-group l =
    string_bytes l.text ++ flat_map (λ g. flat_map (mark_text l.frame l.span l.drawing) (marks_of l.header l.drawing.rows g)) (drop l.group-index l.groups)
    ≡ string_bytes l.initial.text ++ flat_map (λ g. flat_map (mark_text l.frame l.span l.drawing) (marks_of l.header l.drawing.rows g)) l.groups
