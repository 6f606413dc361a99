use Rattle.dk_picture.proofs.Names.{◌≡◌, ◌≤◌, ◌*◌, take, sum_by, used_weight}
use Rattle.dk_picture.proofs.shares.used_in.Given as goal

abbrev pub invariant-loop-group : goal.invariant-loop-group
invariant-loop-group l = record {
  so_far : l.sum ≡ sum_by (used_weight l.thread l.first l.end) (take l.group-index l.groups);
  small : l.sum ≤ l.group-index * 4294967296;
}
