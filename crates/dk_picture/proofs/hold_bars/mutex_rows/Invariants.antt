use Rattle.dk_picture.proofs.Names.{◌≡◌, ◌≤◌, flat_map, length, below, row_of_mutex}
use Rattle.dk_picture.proofs.hold_bars.mutex_rows.Given as goal

abbrev pub invariant-loop-mutex : goal.invariant-loop-mutex
invariant-loop-mutex l = record {
  so_far : l.rows.items ≡ flat_map (row_of_mutex l.holds) (below l.mutex);
  few : length l.rows.items ≤ l.mutex;
}
