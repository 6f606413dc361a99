use Rattle.dk_picture.proofs.Names.{◌≡◌, ◌≤◌, ◌*◌, take, sum_by, column_weight}
use Rattle.dk_picture.proofs.columns.column_sum.Given as goal

abbrev pub invariant-loop-group : goal.invariant-loop-group
invariant-loop-group l = record {
  so_far : l.sum ≡ sum_by (column_weight l.column l.row) (take l.group-index l.groups);
  small : l.sum ≤ l.group-index * 4294967296;
}
