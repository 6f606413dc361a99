use Rattle.dk_picture.proofs.Names.{◌≡◌, drop, list_any, is_before}
use Rattle.dk_picture.proofs.marks.has_before.Given as goal

-- none so far
abbrev pub invariant-loop-group : goal.invariant-loop-group
invariant-loop-group l = list_any (is_before l.span l.rows l.row l.below l.strip l.tick) (drop l.group-index l.groups) ≡ list_any (is_before l.span l.rows l.row l.below l.strip l.tick) l.groups
