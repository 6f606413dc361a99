use Rattle.dk_picture.proofs.Names.{◌≡◌, ◌≤◌, take, sum_by, strip_weight}
use Rattle.dk_picture.proofs.marks.strip_sum.Given as goal

abbrev pub invariant-loop-group : goal.invariant-loop-group
invariant-loop-group l = record {
  so_far : l.sum ≡ sum_by (strip_weight l.span l.rows l.row l.below l.strip) (take l.group-index l.groups);
  small : l.sum ≤ l.group-index;
}
