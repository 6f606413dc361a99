use Rattle.dk_picture.proofs.Names.{◌≡◌, ◌≤◌, flat_map, length, below, quiet_main}
use Rattle.dk_picture.proofs.row_list.quiet_mains.Given as goal

abbrev pub invariant-loop-process : goal.invariant-loop-process
invariant-loop-process l = record {
  so_far : l.quiet.items ≡ flat_map (quiet_main l.groups) (below l.process);
  few : length l.quiet.items ≤ l.process;
}
