-- The tables once the clock has moved on.
use Rattle.std.specs.Prelude.{◌+◌}
use Rattle.dk_recount.specs.Tables.{Tables}

abbrev pub moved_on : Tables → Tables
moved_on d = record d {
  demand = record d.demand { windows = record d.demand.windows { tick = d.demand.windows.tick + 1 } };
}
