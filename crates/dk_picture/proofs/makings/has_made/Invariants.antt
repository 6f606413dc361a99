use Rattle.dk_picture.proofs.Names.{◌≡◌, drop, list_any, is_line_before}
use Rattle.dk_picture.proofs.makings.has_made.Given as goal

-- none so far
abbrev pub invariant-loop-group : goal.invariant-loop-group
invariant-loop-group l = list_any (is_line_before l.main l.tick) (drop l.group-index l.makings) ≡ list_any (is_line_before l.main l.tick) l.makings
