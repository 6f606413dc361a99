use Rattle.std.proofs.Common.{◌≡◌, ◌++◌, drop, map}
use Rattle.dk_overrun_spans.specs.Found.{owner_of}
use Rattle.dk_overrun_spans.specs.Overruns.{overrun_from}
use Rattle.dk_overrun_spans.proofs.reading.add_windows.Given as goal

-- the windows so far, before those that are left
abbrev pub invariant-loop-start : goal.invariant-loop-start
invariant-loop-start l =
    l.overruns.items ++ map (overrun_from (owner_of l.row) l.entries) (drop l.start-index l.starts)
    ≡ l.initial.overruns.items ++ map (overrun_from (owner_of l.row) l.entries) l.starts
