use Rattle.dk_picture.proofs.Names.{◌≡◌, drop, list_any, is_in_way}
use Rattle.dk_picture.proofs.marks.is_marked.Given as goal

-- none so far
abbrev pub invariant-loop-group : goal.invariant-loop-group
invariant-loop-group l = list_any (is_in_way l.span l.rows l.row l.left l.right) (drop l.group-index l.groups) ≡ list_any (is_in_way l.span l.rows l.row l.left l.right) l.groups
