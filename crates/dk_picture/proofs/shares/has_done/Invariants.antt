use Rattle.dk_picture.proofs.Names.{◌≡◌, drop, list_any, is_done_in}
use Rattle.dk_picture.proofs.shares.has_done.Given as goal

-- none so far
abbrev pub invariant-loop-group : goal.invariant-loop-group
invariant-loop-group l = list_any (is_done_in l.thread l.first l.end) (drop l.group-index l.groups) ≡ list_any (is_done_in l.thread l.first l.end) l.groups
