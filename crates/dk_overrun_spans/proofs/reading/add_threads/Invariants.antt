use Rattle.std.proofs.Common.{◌≡◌, ◌++◌, drop, flat_map}
use Rattle.dk_overrun_spans.specs.Overruns.{row_overruns}
use Rattle.dk_overrun_spans.proofs.reading.add_threads.Given as goal

-- the windows so far, before those of the threads that are left
abbrev pub invariant-loop-row : goal.invariant-loop-row
invariant-loop-row l =
    l.overruns.items ++ flat_map (row_overruns l.entries) (drop l.row-index l.rows) ≡ l.initial.overruns.items ++ flat_map (row_overruns l.entries) l.rows
