use Rattle.std.proofs.Common.{◌≡◌, ◌≤◌, ◌*◌, length, take}
use Rattle.std.specs.Prelude.{flat_map}
use Rattle.dk_times.specs.Table.{cell_readings}
use Rattle.dk_times.proofs.table.readings_of.Given as goal

abbrev pub invariant-loop-cell : goal.invariant-loop-cell
invariant-loop-cell l = record {
  said : l.readings.items ≡ flat_map (cell_readings l.call) (take l.cell-index l.cells);
  few : length l.readings.items ≤ 2 * l.cell-index;
}
