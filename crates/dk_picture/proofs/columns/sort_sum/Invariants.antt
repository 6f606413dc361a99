use Rattle.dk_picture.proofs.Names.{◌≡◌, ◌≤◌, ◌*◌, take, sum_by, sort_weight}
use Rattle.dk_picture.proofs.columns.sort_sum.Given as goal

abbrev pub invariant-loop-group : goal.invariant-loop-group
invariant-loop-group l = record {
  so_far : l.sum ≡ sum_by (sort_weight l.sort) (take l.group-index l.groups);
  small : l.sum ≤ l.group-index * 4294967296;
}
