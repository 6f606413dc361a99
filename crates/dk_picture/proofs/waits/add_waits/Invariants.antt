use Rattle.dk_picture.proofs.Names.{◌≡◌, ◌++◌, drop, flat_map, string_bytes, wait_text}
use Rattle.dk_picture.proofs.waits.add_waits.Given as goal

-- those of the groups so far, before those of the groups that are left
abbrev pub invariant-loop-group : goal.invariant-loop-group
invariant-loop-group l =
    string_bytes l.text ++ flat_map (wait_text l.header l.frame l.span l.drawing l.share) (drop l.group-index l.drawing.groups)
    ≡ string_bytes l.initial.text ++ flat_map (wait_text l.header l.frame l.span l.drawing l.share) l.drawing.groups
