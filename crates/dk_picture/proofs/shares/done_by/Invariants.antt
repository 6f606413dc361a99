use Rattle.dk_picture.proofs.Names.{◌≡◌, drop, max, done_by}
use Rattle.dk_picture.proofs.shares.done_by.Given as goal

-- the groups so far, before those that are left
abbrev pub invariant-loop-group : goal.invariant-loop-group
invariant-loop-group l = max l.done (done_by (drop l.group-index l.groups) l.thread l.first l.end) ≡ done_by l.groups l.thread l.first l.end
